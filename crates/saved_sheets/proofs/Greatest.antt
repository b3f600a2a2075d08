-- The greatest number that a measure gives at the cells with a text that pass a test.
use Rattle.std.proofs.Common.{◌≡◌, ◌≤◌, ℕ, max, Bool, true, false, cond, List, [], ◌∷◌, map, Some, refl, sym, ap, ◌∙◌, arith}
use Rattle.std.specs.Prelude.{filter, is_some}
use Rattle.std.specs.Cmp.{tied_itself}
use Rattle.std.specs.FinMap.{find}
use Rattle.std.specs.Ordering.{eq_by_cmp, is_eq}
use Rattle.std.proofs.lemmas.Map.Views.{tells_apart}
use Rattle.cell_refs.specs.declared.cell.Cell.{Cell}
use Rattle.cell_refs.specs.Cells.{cell_cmp}
use Rattle.cell_refs.proofs.Order.{cells_total, exact_cells}
use Rattle.saved_sheets.specs.Saving.{TextInCell, greatest_of}

abbrev pub greatest_at : (Cell → Bool) → (Cell → ℕ) → List TextInCell → ℕ
greatest_at p f es = greatest_of (map (λ (e : TextInCell). f e.0) (filter (λ (e : TextInCell). p e.0) es))

abbrev pub has : List TextInCell → Cell → Bool
has es q = is_some (find cell_cmp q es)

module _ (p : Cell → Bool) (f : Cell → ℕ) where
  -- one more text
  one_more : (e : TextInCell) (es : List TextInCell) → greatest_at p f (e ∷ es) ≡ cond (p e.0) (max (f e.0) (greatest_at p f es)) (greatest_at p f es)
  one_more e es = by (p e.0)
    where
      by : (b : Bool) → greatest_of (map (λ (e : TextInCell). f e.0) (cond b (e ∷ filter (λ (e : TextInCell). p e.0) es) (filter (λ (e : TextInCell). p e.0) es)))
          ≡ cond b (max (f e.0) (greatest_at p f es)) (greatest_at p f es)
      by true = refl
      by false = refl

  first_within : (b : Bool) (m n : ℕ) → b ≡ true → m ≤ cond b (max m n) n
  first_within true m n h = omega arith
  first_within false m n h = cc

  rest_within : (b : Bool) (m n : ℕ) → n ≤ cond b (max m n) n
  rest_within true m n = omega arith
  rest_within false m n = omega arith

  both_within : (b : Bool) (m n top : ℕ) → (b ≡ true → m ≤ top) → n ≤ top → cond b (max m n) n ≤ top
  both_within true m n top h k = let first = h refl in omega (arith, first)
  both_within false m n top h k = k

  -- a cell that passes is within it
  pub is_within : (es : List TextInCell) (q : Cell) → p q ≡ true → has es q ≡ true → f q ≤ greatest_at p f es
  is_within [] q passes there = cc
  is_within (e ∷ es) q passes there = by (λ k. is_within es q passes k) (eq_by_cmp cell_cmp q e.0) refl there
    where
      by : (has es q ≡ true → f q ≤ greatest_at p f es) → (b : Bool) → eq_by_cmp cell_cmp q e.0 ≡ b → is_some (cond b (Some e.1) (find cell_cmp q es)) ≡ true
          → f q ≤ greatest_at p f (e ∷ es)
      by later true same k =
          let is : q ≡ e.0 = tells_apart exact_cells q e.0 same in
          let first = first_within (p e.0) (f e.0) (greatest_at p f es) (ap p (sym is) ∙ passes) in
          let sum = one_more e es in
          let here = ap f is in
          omega (arith, first, sum, here)
      by later false other k =
          let rest : f q ≤ greatest_at p f es = later k in
          let more = rest_within (p e.0) (f e.0) (greatest_at p f es) in
          let sum = one_more e es in
          omega (arith, rest, more, sum)

  still_there : (e : TextInCell) (es : List TextInCell) (q : Cell) → has es q ≡ true → has (e ∷ es) q ≡ true
  still_there e es q there = by (eq_by_cmp cell_cmp q e.0)
    where
      by : (b : Bool) → is_some (cond b (Some e.1) (find cell_cmp q es)) ≡ true
      by true = refl
      by false = there

  first_there : (e : TextInCell) (es : List TextInCell) → has (e ∷ es) e.0 ≡ true
  first_there e es = ap (λ b. is_some (cond b (Some e.1) (find cell_cmp e.0 es))) (ap is_eq (tied_itself cells_total e.0))

  -- it is within what each of them is within
  pub all_within : (top : ℕ) (es : List TextInCell) → ((q : Cell) → p q ≡ true → has es q ≡ true → f q ≤ top) → greatest_at p f es ≤ top
  all_within top [] each = omega arith
  all_within top (e ∷ es) each =
      let sum = one_more e es in
      let within : cond (p e.0) (max (f e.0) (greatest_at p f es)) (greatest_at p f es) ≤ top =
      both_within (p e.0) (f e.0) (greatest_at p f es) top (λ passes. each e.0 passes (first_there e es))
      (all_within top es (λ q passes there. each q passes (still_there e es q there))) in
      omega (arith, sum, within)
