-- Rows that reach to one more cell.
use Rattle.std.proofs.Common.{◌≡◌, ◌≢◌, ◌<◌, ◌≤◌, ℕ, suc, max, List, [], get_or, length, refl, sym, subst, arith, ◌⊎◌, inl, inr}
use Rattle.cell_refs.specs.declared.cell.Cell.{Cell}
use Rattle.std.proofs.lemmas.Bool.Decides.{eqb_tells}
use Rattle.saved_sheets.specs.Widths.{IsReached}
use Rattle.saved_sheets.proofs.Used.{AreWidthsOf}

pub no_widths : (These : Cell → Type 0) → ((q : Cell) → These q → ⊥) → AreWidthsOf These []
no_widths These none = record {
  reach = λ q h. absurd (none q h);
  no_wider = λ row n h. absurd (omega (arith, h));
  no_more = λ row h. absurd (omega (arith, h));
}

-- the same widths, of the same cells
pub same_widths : (These Those : Cell → Type 0) (widths : List ℕ) → AreWidthsOf These widths → ((q : Cell) → These q → Those q) → ((q : Cell) → Those q → These q) → AreWidthsOf Those widths
same_widths These Those widths w to from = record {
  reach = λ q h. w.reach q (from q h);
  no_wider = λ row n h. let last = w.no_wider row n h in (last.0, (to last.0 last.1.0, last.1.1));
  no_more = λ row h. let last = w.no_more row h in (last.0, (to last.0 last.1.0, last.1.1));
}

below_max : (n a b : ℕ) → n < max a b → (n < a) ⊎ (n < b)
below_max n a b h = grind arith

same_or_not : (a b : ℕ) → (a ≡ b) ⊎ (a ≢ b)
same_or_not a b = elim (eqb_tells a b) as (λ _. (a ≡ b) ⊎ (a ≢ b)) [ inl w ↦ inl w.1 | inr w ↦ inr w.1 ]

module _ (These Those : Cell → Type 0) (cell : Cell) (old new : List ℕ) (w : AreWidthsOf These old) (r : IsReached cell old new)
    (cases : (q : Cell) → Those q → These q ⊎ (cell ≡ q)) (still : (q : Cell) → These q → Those q) (here : Those cell) where
  -- no row gets narrower
  grows : (row : ℕ) → get_or old row 0 ≤ get_or new row 0
  grows row = elim (same_or_not row cell.row) as (λ _. get_or old row 0 ≤ get_or new row 0) [
    | inl e ↦ subst (λ (i : ℕ). get_or old i 0 ≤ get_or new i 0) (sym e) (let at = r.here in omega (arith, at))
    | inr ne ↦ let at = r.others row ne in omega (arith, at)
  ]

  old_wider : (row n : ℕ) → n < get_or old row 0 → (q : Cell) × (Those q × ((q.row ≡ row) × (n ≤ q.col)))
  old_wider row n h = let last = w.no_wider row n h in (last.0, (still last.0 last.1.0, last.1.1))

  at_wider : (n : ℕ) → n < get_or new cell.row 0 → (q : Cell) × (Those q × ((q.row ≡ cell.row) × (n ≤ q.col)))
  at_wider n h = elim (below_max n (get_or old cell.row 0) (suc cell.col) (let at = r.here in omega (arith, at, h))) as (λ _. (q : Cell) × (Those q × ((q.row ≡ cell.row) × (n ≤ q.col)))) [
    | inl lt ↦ old_wider cell.row n lt
    | inr lt ↦ (cell, (here, (refl, omega (arith, lt))))
  ]

  pub reached : AreWidthsOf Those new
  reached = record {
    reach = λ q h. elim (cases q h) as (λ _. q.col < get_or new q.row 0) [
      | inl was ↦ let lt = w.reach q was in let more = grows q.row in omega (arith, lt, more)
      | inr e ↦ subst (λ (c : Cell). c.col < get_or new c.row 0) e (let at = r.here in omega (arith, at))
    ];
    no_wider = λ row n h. elim (same_or_not row cell.row) as (λ _. (q : Cell) × (Those q × ((q.row ≡ row) × (n ≤ q.col)))) [
      | inl e ↦ subst (λ (i : ℕ). (q : Cell) × (Those q × ((q.row ≡ i) × (n ≤ q.col)))) (sym e) (at_wider n (subst (λ (i : ℕ). n < get_or new i 0) e h))
      | inr ne ↦ old_wider row n (let at = r.others row ne in omega (arith, at, h))
    ];
    no_more = λ row h. elim (below_max row (length old) (suc cell.row) (let at = r.rows in omega (arith, at, h))) as (λ _. (q : Cell) × (Those q × (row ≤ q.row))) [
      | inl lt ↦ let last = w.no_more row lt in (last.0, (still last.0 last.1.0, last.1.1))
      | inr lt ↦ (cell, (here, omega (arith, lt)))
    ];
  }
