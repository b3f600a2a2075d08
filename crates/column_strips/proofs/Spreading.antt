-- Following one cell after another finds those that reach the first.
use Rattle.std.proofs.Common.{◌≡◌, ℕ, zero, suc, ◌+◌, ◌<◌, ◌≤◌, Bool, true, cond, List, [], ◌∷◌, length, refl, sym, ap, ◌∙◌, arith, inl, inr}
use Rattle.std.specs.Prelude.{Some, slice_get}
use Rattle.std.specs.Cmp.{eq_by_cmp_equiv, tied_itself}
use Rattle.std.specs.FinMap.{contains_key, entries, find, get-entries, len, len-entries}
use Rattle.std.specs.List.{IsDistinct}
use Rattle.std.specs.Map.{lookup}
use Rattle.std.specs.Option.{is_some}
use Rattle.std.specs.Ordering.{eq_by_cmp, is_eq}
use Rattle.std.proofs.lemmas.Bool.{cases_eq, or_cases, or_left, or_right}
use Rattle.std.proofs.lemmas.Map.Keys.{IsDistinct-tail}
use Rattle.std.proofs.lemmas.Map.Steps.{length-le_from_keys}
use Rattle.std.proofs.lemmas.Option.{same_Some, slice_get_within}
use Rattle.cell_refs.specs.Cells.{cell_cmp}
use Rattle.cell_refs.specs.declared.cell.Cell.{Cell}
use Rattle.cell_refs.proofs.Order.{cells_total, exact_cells}
use Rattle.column_strips.specs.Affected.{AreFormulas, IsAtOrReaches, IsFollowed, IsSpreading, Reaches, by_more, by_one, has_cell}
use Rattle.column_strips.specs.Formulas.{References}
use Rattle.column_strips.proofs.Rising.{get_earlier, one_passes, passes_one}
use Rattle.column_strips.proofs.Tests.{is_equal}

-- a cell of a list, at its place
pub cell_there : (cells : List Cell) (c : Cell) → has_cell cells c ≡ true → (p : ℕ) × (slice_get cells p ≡ Some c)
cell_there cells c h =
    let r = one_passes (eq_by_cmp cell_cmp c) cells h in
    (r.0, r.2 ∙ ap Some (sym (exact_cells c r.1 (is_equal _ r.3))))

pub has_there : (cells : List Cell) (p : ℕ) (c : Cell) → slice_get cells p ≡ Some c → has_cell cells c ≡ true
has_there cells p c at = passes_one (eq_by_cmp cell_cmp c) cells p c at (ap is_eq (tied_itself cells_total c))

module _ (refers : Cell → Cell → Bool) (from : Cell) where
  -- ---- at first
  pub first_spreads : IsSpreading refers from (from ∷ []) 0
  first_spreads = record {
    start = refl;
    sound = λ c h. let r = cell_there (from ∷ []) c h in inl (alone r.0 c r.1);
    closed = λ p c d l. absurd (omega (arith, l));
  }
    where
      alone : (p : ℕ) (c : Cell) → slice_get (from ∷ []) p ≡ Some c → c ≡ from
      alone zero c h = sym (same_Some from c h)
      alone (suc p) c h = cc

  -- ---- a step
  module _ (found longer : List Cell) (next : ℕ) (to : Cell) (s : IsSpreading refers from found next) (at : slice_get found next ≡ Some to) (f : IsFollowed refers to found longer) where
    one_further : (c : Cell) → refers c to ≡ true → IsAtOrReaches refers from c
    one_further c r =
        elim (s.sound to (has_there found next to at)) as (λ _. IsAtOrReaches refers from c) [
          | inl e ↦ inr (by_one c (ap (refers c) (sym e) ∙ r))
          | inr w ↦ inr (by_more c to r w)
        ]

    -- what stands at a place of the list stood there
    stood : (p : ℕ) (d : Cell) → p < next → slice_get longer p ≡ Some d → slice_get found p ≡ Some d
    stood p d l h =
        let x = get_earlier found p next to (omega (arith, l)) at in
        x.1 ∙ sym (f.kept p x.0 x.1) ∙ h

    still : (c : Cell) → has_cell found c ≡ true → has_cell longer c ≡ true
    still c h = f.has c ∙ or_left (has_cell found c) (refers c to) h

    pub goes_on : IsSpreading refers from longer (next + 1)
    goes_on = record {
      start = f.kept 0 from s.start;
      sound = λ c h. elim (or_cases (has_cell found c) (refers c to) (sym (f.has c) ∙ h)) as (λ _. IsAtOrReaches refers from c) [ inl e ↦ s.sound c e | inr r ↦ one_further c r ];
      closed = λ p c d l h r. elim (cases_eq p next) as (λ _. has_cell longer c ≡ true) [
        | inl e ↦
            let same : d ≡ to = same_Some d to (sym h ∙ ap (slice_get longer) e ∙ f.kept next to at) in
            f.has c ∙ or_right (has_cell found c) (refers c to) (ap (refers c) (sym same) ∙ r)
        | inr n ↦ still c (s.closed p c d (omega (arith, l, n)) (stood p d (omega (arith, l, n)) h) r)
      ];
    }

  -- ---- at the end
  module _ (found : List Cell) (s : IsSpreading refers from found (length found)) where
    one_back : (c d : Cell) → refers c d ≡ true → has_cell found d ≡ true → has_cell found c ≡ true
    one_back c d r h = let w = cell_there found d h in s.closed w.0 c d (slice_get_within found w.0 d w.1) w.1 r

    reaching : (c : Cell) → Reaches refers from c → has_cell found c ≡ true
    reaching _ (by_one c r) = one_back c from r (has_there found 0 from s.start)
    reaching _ (by_more c d r w) = one_back c d r (reaching d w)

    at_or_reaching : (c : Cell) → IsAtOrReaches refers from c → has_cell found c ≡ true
    at_or_reaching c (inl e) = ap (has_cell found) e ∙ has_there found 0 from s.start
    at_or_reaching c (inr w) = reaching c w

    pub all_found : (c : Cell) → (has_cell found c ≡ true → IsAtOrReaches refers from c) × (IsAtOrReaches refers from c → has_cell found c ≡ true)
    all_found c = (s.sound c, at_or_reaching c)

-- ---- how many there are
looked_up : {X : Type 0} (es : List (Cell × X)) (q : Cell) → find cell_cmp q es ≡ lookup (eq_by_cmp cell_cmp q) es
looked_up [] q = refl
looked_up (e ∷ es) q = ap (cond (eq_by_cmp cell_cmp q e.0) (Some e.1)) (looked_up es q)

-- distinct cells of formulas are no more than there are formulas
few_formulas : (references : References) (cells : List Cell) → IsDistinct (eq_by_cmp cell_cmp) cells → ((p : ℕ) (c : Cell) → slice_get cells p ≡ Some c → contains_key references c ≡ true) → length cells ≤ len references
few_formulas references cells distinct each =
    let most = length-le_from_keys (eq_by_cmp_equiv cells_total) cells (entries references) distinct (λ q any.
    let r = cell_there cells q any in
    ap is_some (sym (looked_up (entries references) q) ∙ sym (get-entries references q)) ∙ each r.0 q r.1) in
    omega (arith, most, len-entries references)

pub few_found : (references : References) (found : List Cell) → IsDistinct (eq_by_cmp cell_cmp) found → AreFormulas references found → length found ≤ len references + 1
few_found references [] distinct are = omega arith
few_found references (x ∷ found) distinct are =
    omega (arith, few_formulas references found (IsDistinct-tail (eq_by_cmp cell_cmp) x found distinct) are)
