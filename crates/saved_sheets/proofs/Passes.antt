-- The cells of a sheet with a text, one after the other.
use Rattle.std.proofs.Common.{◌≡◌, ◌<◌, ◌≤◌, ◌+◌, ℕ, Bool, true, false, ◌==◌, cond, List, [], ◌∷◌, Option, Some, None, refl, sym, ap, subst, ◌∙◌, arith, ◌⊎◌, inl, inr}
use Rattle.std.specs.Prelude.{◌||◌}
use Rattle.std.specs.Cmp.{tied_itself}
use Rattle.std.specs.FinMap.{contains_key-keys, keys}
use Rattle.std.specs.List.{list_any}
use Rattle.std.specs.Ordering.{eq_by_cmp, is_lt, ordering_reverse}
use Rattle.std.specs.declared.cmp.Ordering.{Ordering}
use Rattle.std.specs.declared.cmp.Ordering.TheVariants.{Less, Equal, Greater}
use Rattle.std.proofs.lemmas.Bool.{eqb-true, eq-eqb}
use Rattle.std.proofs.lemmas.Map.Views.{tells_apart}
use Rattle.cell_refs.specs.declared.cell.Cell.{Cell}
use Rattle.cell_refs.specs.Cells.{cell_cmp}
use Rattle.cell_refs.proofs.Order.{cells_total, exact_cells}
use Rattle.recalculation.specs.Entries.{Contents}
use Rattle.workbook.specs.Contents.{IsLast, IsNext, IsPast}
use Rattle.saved_sheets.specs.Widths.{IsReachedOn}
use Rattle.saved_sheets.proofs.Used.{AreWidthsOf, IsOn}
use Rattle.saved_sheets.proofs.Reached.{no_widths, reached, same_widths}

-- the cells of a sheet up to one
abbrev pub IsSeen : Contents → ℕ → Option Cell → Cell → Type 0
IsSeen contents sheet after q = IsOn contents sheet q × (IsPast after q → ⊥)

pub none_seen : (contents : Contents) (sheet : ℕ) → AreWidthsOf (IsSeen contents sheet None) []
none_seen contents sheet = no_widths (IsSeen contents sheet None) (λ q h. h.1 tt)

module _ (contents : Contents) (sheet : ℕ) (after : Option Cell) (cell : Cell) (next : IsNext contents after cell) where
  next_seen : (q : Cell) → IsSeen contents sheet (Some cell) q → IsSeen contents sheet after q ⊎ (cell ≡ q)
  next_seen q h = by (cell_cmp cell q) refl
    where
      by : (o : Ordering) → cell_cmp cell q ≡ o → IsSeen contents sheet after q ⊎ (cell ≡ q)
      by Less e = absurd (h.1 e)
      by Equal e = inr (exact_cells cell q e)
      by Greater e = inl (h.0, λ p. next.least q h.0.0 p (cells_total.antisymm q cell ∙ ap ordering_reverse e))

  past_next : (o : Option Cell) (q : Cell) → IsPast o cell → cell_cmp cell q ≡ Less → IsPast o q
  past_next None q h k = tt
  past_next (Some a) q h k = cells_total.trans a cell q h k

  still_seen : (q : Cell) → IsSeen contents sheet after q → IsSeen contents sheet (Some cell) q
  still_seen q h = (h.0, λ k. h.1 (past_next after q next.past k))

  here_seen : cell.sheet.0 ≡ sheet → IsSeen contents sheet (Some cell) cell
  here_seen on = ((next.text, on), λ k. let e = tied_itself cells_total cell in cc)

  elsewhere_seen : (cell.sheet.0 ≡ sheet → ⊥) → (q : Cell) → IsSeen contents sheet (Some cell) q → IsSeen contents sheet after q
  elsewhere_seen off q h = elim (next_seen q h) as (λ _. IsSeen contents sheet after q) [
    | inl w ↦ w
    | inr e ↦ absurd (off (ap (λ (c : Cell). c.sheet.0) e ∙ h.0.1))
  ]

  -- with the next cell, where it lies on the sheet
  widths_on : (old new : List ℕ) (b : Bool) → (b ≡ true → cell.sheet.0 ≡ sheet) → (b ≡ false → cell.sheet.0 ≡ sheet → ⊥) → IsReachedOn b cell old new
      → AreWidthsOf (IsSeen contents sheet after) old → AreWidthsOf (IsSeen contents sheet (Some cell)) new
  widths_on old new true on off r w = reached (IsSeen contents sheet after) (IsSeen contents sheet (Some cell)) cell old new w r next_seen still_seen (here_seen (on refl))
  widths_on old new false on off same w =
      subst (AreWidthsOf (IsSeen contents sheet (Some cell))) (sym same)
      (same_widths (IsSeen contents sheet after) (IsSeen contents sheet (Some cell)) old w still_seen (elsewhere_seen (off refl)))

  pub with_next : (old new : List ℕ) → IsReachedOn (cell.sheet.0 == sheet) cell old new
      → AreWidthsOf (IsSeen contents sheet after) old → AreWidthsOf (IsSeen contents sheet (Some cell)) new
  with_next old new r w = widths_on old new (cell.sheet.0 == sheet) (eqb-true cell.sheet.0 sheet) (λ e on. let f = eq-eqb cell.sheet.0 sheet on in cc) r w

-- where none is left they are all cells of the sheet
pub all_seen : (contents : Contents) (sheet : ℕ) (after : Option Cell) (widths : List ℕ) → IsLast contents after
    → AreWidthsOf (IsSeen contents sheet after) widths → AreWidthsOf (IsOn contents sheet) widths
all_seen contents sheet after widths last w = same_widths (IsSeen contents sheet after) (IsOn contents sheet) widths w (λ q h. h.0) (λ q h. (h, last q h.0))

-- ---- fewer cells are left
-- how many cells pass a test
abbrev pub passing : (Cell → Bool) → List Cell → ℕ
passing p [] = 0
passing p (x ∷ xs) = cond (p x) 1 0 + passing p xs

-- whether a cell stands behind another, where one is given
abbrev pub is_past : Option Cell → Cell → Bool
is_past None a = true
is_past (Some after) a = is_lt (cell_cmp after a)

no_more : (p q : Cell → Bool) → ((x : Cell) → q x ≡ true → p x ≡ true) → (xs : List Cell) → passing q xs ≤ passing p xs
no_more p q w [] = omega arith
no_more p q w (x ∷ xs) = by (no_more p q w xs) (q x) refl
  where
    by : passing q xs ≤ passing p xs → (t : Bool) → q x ≡ t → cond t 1 0 + passing q xs ≤ cond (p x) 1 0 + passing p xs
    by rest true e = let first : ◌≡◌ {A = ℕ} (cond (p x) 1 0) 1 = ap (λ t. cond t 1 0) (w x e) in omega (arith, first, rest)
    by rest false e = omega (arith, rest)

-- one cell that passes no longer
fewer : (p q : Cell → Bool) → ((x : Cell) → q x ≡ true → p x ≡ true) → (c : Cell) → p c ≡ true → q c ≡ false → (xs : List Cell)
    → list_any (eq_by_cmp cell_cmp c) xs ≡ true → passing q xs < passing p xs
fewer p q w c was is [] h = cc
fewer p q w c was is (x ∷ xs) h = by (λ k. fewer p q w c was is xs k) (eq_by_cmp cell_cmp c x) refl h
  where
    by : (list_any (eq_by_cmp cell_cmp c) xs ≡ true → passing q xs < passing p xs) → (t : Bool) → eq_by_cmp cell_cmp c x ≡ t
        → (t || list_any (eq_by_cmp cell_cmp c) xs) ≡ true → passing q (x ∷ xs) < passing p (x ∷ xs)
    by later true e h =
        let same : c ≡ x = tells_apart exact_cells c x e in
        let before : ◌≡◌ {A = ℕ} (cond (p x) 1 0) 1 = ap (λ t. cond t 1 0) (ap p (sym same) ∙ was) in
        let now : ◌≡◌ {A = ℕ} (cond (q x) 1 0) 0 = ap (λ t. cond t 1 0) (ap q (sym same) ∙ is) in
        let rest = no_more p q w xs in
        omega (arith, before, now, rest)
    by later false e h =
        let rest = later h in
        let first = no_more p q w (x ∷ []) in
        omega (arith, rest, first)

less : (o : Ordering) → is_lt o ≡ true → o ≡ Less
less Less h = refl
less Equal h = cc
less Greater h = cc

is_behind : (after : Option Cell) (c : Cell) → IsPast after c → is_past after c ≡ true
is_behind None c h = refl
is_behind (Some a) c h = ap is_lt h

still_past : (after : Option Cell) (c x : Cell) → IsPast after c → is_lt (cell_cmp c x) ≡ true → is_past after x ≡ true
still_past None c x h k = refl
still_past (Some a) c x h k = ap is_lt (cells_total.trans a c x h (less (cell_cmp c x) k))

pub fewer_left : (contents : Contents) (after : Option Cell) (cell : Cell) → IsNext contents after cell
    → passing (is_past (Some cell)) (keys contents) < passing (is_past after) (keys contents)
fewer_left contents after cell next =
    fewer (is_past after) (is_past (Some cell)) (λ x h. still_past after cell x next.past h) cell (is_behind after cell next.past) (ap is_lt (tied_itself cells_total cell))
    (keys contents) (sym (contains_key-keys contents cell) ∙ next.text)
