-- Kept formulas with one more or one less.
use Rattle.std.proofs.Common.{◌≡◌, ◌≢◌, ℕ, ◌+◌, ◌-◌, ◌<◌, ◌≤◌, Bool, true, false, ◌&&◌, cond, List, [], length, refl, sym, ap, subst, ◌∙◌, arith, ◌⊎◌, inl, inr}
use Rattle.std.specs.Prelude.{◌||◌, None, Some, nat_lt, not, slice_get}
use Rattle.std.specs.Cmp.{IsTotalOrder, tied_itself}
use Rattle.std.specs.FinMap.{contains_key, get, get-remove, len, len-insert, len-remove}
use Rattle.std.specs.FinMap as finite
use Rattle.std.specs.List.{insert, list_any, remove}
use Rattle.std.specs.Ordering.{eq_by_cmp, is_eq, ordering_reverse}
use Rattle.std.specs.declared.cmp.Ordering.{Ordering}
use Rattle.std.specs.declared.cmp.Ordering.TheVariants.{Less, Equal, Greater}
use Rattle.std.proofs.lemmas.Bool.{and_parts, cases_eq, cases_lt, le-ltb, lt-ltb}
use Rattle.std.proofs.lemmas.Cmp.{on_total}
use Rattle.cell_refs.specs.Cells.{cell_cmp}
use Rattle.cell_refs.specs.declared.cell.Cell.{Cell}
use Rattle.cell_refs.specs.declared.limits.TheConstants.{COLUMNS, TEXTS}
use Rattle.cell_refs.proofs.Order.{cells_total, exact_cells}
use Rattle.column_strips.specs.declared.formulas.Formula.{Formula}
use Rattle.column_strips.specs.declared.strip.Strip.{Strip}
use Rattle.column_strips.specs.Columns.{AllRising, Columns, place_in, strips_at, strips_in}
use Rattle.column_strips.specs.Formulas.{AreSorted, IsRising, References, references_in}
use Rattle.column_strips.specs.Kept.{AreKept, makes}
use Rattle.column_strips.specs.Strips.{AreStrips, has_strip, is_part, strip_cmp}
use Rattle.column_strips.proofs.Finding.{found_there, is_at, none_found, references_insert, references_remove, said_in, same_cell}
use Rattle.column_strips.proofs.Making.{made}
use Rattle.column_strips.proofs.Places.{none_past}
use Rattle.column_strips.proofs.Rising.{any_insert, any_remove, get_earlier, none_left, one_passes, passes_one, rising_insert, rising_remove}
use Rattle.column_strips.proofs.Tests.{refused, taken_out}

abbrev formula_cmp : Formula → Formula → Ordering
formula_cmp f g = cell_cmp f.cell g.cell

formulas_total : IsTotalOrder formula_cmp
formulas_total = on_total (λ (f : Formula). f.cell) cells_total

no_more : (b : Bool) (n m : ℕ) → m ≡ cond b (n - 1) n → m ≤ n
no_more true n m e = omega (arith, e)
no_more false n m e = omega (arith, e)

one_more : (b : Bool) (n m : ℕ) → m ≡ cond b n (n + 1) → m ≤ n + 1
one_more true n m e = omega (arith, e)
one_more false n m e = omega (arith, e)

-- ---- places
-- none from the first on that doesn't come before a cell comes before it
pub not_before : (formulas : List Formula) → AreSorted formulas → (cell : Cell) (p : ℕ) → ((f : Formula) → slice_get formulas p ≡ Some f → cell_cmp f.cell cell ≢ Less)
    → (k : ℕ) (g : Formula) → p ≤ k → slice_get formulas k ≡ Some g → cell_cmp g.cell cell ≢ Less
not_before formulas sorted cell p first k g h at less =
    elim (cases_eq p k) as (λ _. ⊥) [
      | inl e ↦ first g (ap (slice_get formulas) e ∙ at) less
      | inr n ↦
          let x = get_earlier formulas p k g h at in
          first x.0 x.1 (cells_total.trans x.0.cell g.cell cell (sorted p k x.0 g (omega (arith, h, n)) x.1 at) less)
    ]

-- what stands behind the first is another cell, where the first is
pub not_behind : (formulas : List Formula) → AreSorted formulas → (cell : Cell) (p : ℕ) → ((f : Formula) → slice_get formulas p ≡ Some f → cell_cmp f.cell cell ≢ Less)
    → ((f : Formula) → slice_get formulas p ≡ Some f → f.cell ≢ cell) → (k : ℕ) (g : Formula) → p ≤ k → slice_get formulas k ≡ Some g → g.cell ≢ cell
not_behind formulas sorted cell p first other k g h at same =
    elim (cases_eq p k) as (λ _. ⊥) [
      | inl e ↦ other g (ap (slice_get formulas) e ∙ at) same
      | inr n ↦
          let x = get_earlier formulas p k g h at in
          first x.0 x.1 (ap (cell_cmp x.0.cell) (sym same) ∙ sorted p k x.0 g (omega (arith, h, n)) x.1 at)
    ]

before_another : (a b : Cell) → cell_cmp a b ≡ Less → a ≢ b
before_another a b less e = let tie : cell_cmp a b ≡ Equal = ap (cell_cmp a) (sym e) ∙ tied_itself cells_total a in cc

-- where those before a place come before a cell and what stands there is another, no formula is at the cell
pub no_place : (formulas : List Formula) → AreSorted formulas → (cell : Cell) (p : ℕ) → ((k : ℕ) (f : Formula) → 0 ≤ k → k < p → slice_get formulas k ≡ Some f → cell_cmp f.cell cell ≡ Less)
    → ((f : Formula) → slice_get formulas p ≡ Some f → cell_cmp f.cell cell ≢ Less) → ((f : Formula) → slice_get formulas p ≡ Some f → f.cell ≢ cell)
    → (i : ℕ) (f : Formula) → slice_get formulas i ≡ Some f → f.cell ≢ cell
no_place formulas sorted cell p before first other i f at =
    elim (cases_lt i p) as (λ _. f.cell ≢ cell) [
      | inl l ↦ before_another f.cell cell (before i f (omega arith) l at)
      | inr l ↦ not_behind formulas sorted cell p first other i f l at
    ]

-- no formula stands at a cell of which nothing is kept
pub no_formula : (formulas : List Formula) → AreSorted formulas → (cell : Cell) → get (references_in formulas) cell ≡ None → (k : ℕ) (g : Formula) → slice_get formulas k ≡ Some g → g.cell ≢ cell
no_formula formulas sorted cell none k g at same =
    let there : get (references_in formulas) cell ≡ Some g.areas.items = ap (get (references_in formulas)) (sym same) ∙ said_in formulas g.cell ∙ found_there formulas sorted k g at in cc

greater : (o : Ordering) → o ≢ Less → o ≢ Equal → o ≡ Greater
greater Less a b = absurd (a refl)
greater Equal a b = absurd (b refl)
greater Greater a b = refl

pub later_ones : (formulas : List Formula) → AreSorted formulas → (cell : Cell) → get (references_in formulas) cell ≡ None → (p : ℕ) → ((f : Formula) → slice_get formulas p ≡ Some f → cell_cmp f.cell cell ≢ Less)
    → (k : ℕ) (g : Formula) → p ≤ k → slice_get formulas k ≡ Some g → cell_cmp cell g.cell ≡ Less
later_ones formulas sorted cell none p first k g h at =
    cells_total.antisymm cell g.cell ∙ ap ordering_reverse
    (greater (cell_cmp g.cell cell) (not_before formulas sorted cell p first k g h at) (λ tie. no_formula formulas sorted cell none k g at (exact_cells g.cell cell tie)))

-- ---- one less
module _ (formulas : List Formula) (columns : Columns) (k : AreKept formulas columns) where
  module _ (p : ℕ) (f : Formula) (at : slice_get formulas p ≡ Some f) (within : p < length formulas) (columns' : Columns) (rising : AllRising columns')
      (has : (sheet column : ℕ) (s : Strip) → has_strip (strips_in columns' sheet column) s
      ≡ (not (eq_by_cmp cell_cmp s.cell f.cell && list_any (λ area. is_part area sheet column s) f.areas.items) && has_strip (strips_in columns sheet column) s)) where
    alone : (sheet column : ℕ) (s : Strip) → makes sheet column s f ≡ true → list_any (makes sheet column s) (remove formulas p) ≡ false
    alone sheet column s own = refused _ (λ any.
        let r = one_passes (makes sheet column s) (remove formulas p) any in
        let e = same_cell s.cell f (and_parts _ _ own).0 in
        let tie : eq_by_cmp formula_cmp f r.1 ≡ true = ap (λ x. eq_by_cmp cell_cmp x r.1.cell) (sym e) ∙ (and_parts _ _ r.3).0 in
        let there = passes_one (eq_by_cmp formula_cmp f) (remove formulas p) r.0 r.1 r.2 tie in
        let not_there = none_left formula_cmp formulas_total formulas p f k.sorted at within f (ap is_eq (tied_itself cells_total f.cell)) in
        cc)

    pub kept_without : AreKept (remove formulas p) columns'
    kept_without = record {
      sorted = rising_remove formula_cmp formulas p within k.sorted;
      few =
          let e = references_remove formulas k.sorted p f at in
          let n = ap len e ∙ len-remove cells_total (references_in formulas) f.cell in
          let less = no_more _ (len (references_in formulas)) (len (references_in (remove formulas p))) n in
          omega (arith, less, k.few);
      rising = rising;
      strips = λ sheet column s.
          has sheet column s
          ∙ ap (λ b. not (makes sheet column s f) && b) (k.strips sheet column s ∙ any_remove (makes sheet column s) formulas p f at)
          ∙ sym (taken_out (makes sheet column s f) (list_any (makes sheet column s) (remove formulas p)) (alone sheet column s));
    }

  -- ---- one more
  module _ (p : ℕ) (f : Formula) (within : p ≤ length formulas) (columns' : Columns) (rising : AllRising columns')
      (before : (k : ℕ) (g : Formula) → k < p → slice_get formulas k ≡ Some g → cell_cmp g.cell f.cell ≡ Less)
      (behind : (k : ℕ) (g : Formula) → p ≤ k → slice_get formulas k ≡ Some g → cell_cmp f.cell g.cell ≡ Less)
      (few : len (references_in formulas) < TEXTS)
      (has : (sheet column : ℕ) (s : Strip) → has_strip (strips_in columns' sheet column) s
      ≡ ((eq_by_cmp cell_cmp s.cell f.cell && list_any (λ area. is_part area sheet column s) f.areas.items) || has_strip (strips_in columns sheet column) s)) where
    pub kept_with : AreKept (insert formulas p f) columns'
    kept_with = record {
      sorted = rising_insert formula_cmp formulas p f within k.sorted before behind;
      few =
          let e = references_insert formulas p f before in
          let n = ap len e ∙ len-insert cells_total (references_in formulas) f.cell f.areas.items in
          let less = one_more _ (len (references_in formulas)) (len (references_in (insert formulas p f))) n in
          omega (arith, less, few);
      rising = rising;
      strips = λ sheet column s.
          has sheet column s ∙ ap (λ b. makes sheet column s f || b) (k.strips sheet column s) ∙ sym (any_insert (makes sheet column s) formulas p f);
    }

  -- ---- the same strips
  pub kept_alike : (columns' : Columns) → ((i : ℕ) → strips_at columns' i ≡ strips_at columns i) → AreKept formulas columns'
  kept_alike columns' same = record {
    sorted = k.sorted;
    few = k.few;
    rising = λ i. subst (IsRising strip_cmp) (sym (same i)) (k.rising i);
    strips = λ sheet column s. ap (λ (xs : List Strip). has_strip (cond (nat_lt column COLUMNS) xs []) s) (same (place_in sheet column)) ∙ k.strips sheet column s;
  }

-- nothing is kept for a cell at which no formula stands
pub none_kept : (formulas : List Formula) (cell : Cell) → ((i : ℕ) (f : Formula) → slice_get formulas i ≡ Some f → f.cell ≢ cell) → get (references_in formulas) cell ≡ None
none_kept formulas cell none = said_in formulas cell ∙ none_found formulas cell (λ k g at. refused (is_at cell g) (λ h. none k g at (sym (same_cell cell g h))))

-- what a column has are the strips that the references make there
pub kept_strips : (formulas : List Formula) (columns : Columns) → AreKept formulas columns → (sheet column : ℕ) → AreStrips (references_in formulas) sheet column (strips_in columns sheet column)
kept_strips formulas columns k sheet column = record {
  exact = λ s. k.strips sheet column s ∙ made sheet column s formulas k.sorted;
  rising =
      elim (nat_lt column COLUMNS) as (λ t. IsRising strip_cmp (cond t (strips_at columns (place_in sheet column)) [])) [
        | true ↦ k.rising (place_in sheet column)
        | false ↦ λ i j x y l at is. cc
      ];
}

-- a column of the limits has the strips at its place, and another one none
pub within_limits : (columns : Columns) (sheet column : ℕ) → column < COLUMNS → strips_in columns sheet column ≡ strips_at columns (place_in sheet column)
within_limits columns sheet column h = ap (λ t. cond t (strips_at columns (place_in sheet column)) []) (lt-ltb column COLUMNS h)

pub past_limits : (columns : Columns) (sheet column : ℕ) → COLUMNS ≤ column → strips_in columns sheet column ≡ []
past_limits columns sheet column h = ap (λ t. cond t (strips_at columns (place_in sheet column)) []) (le-ltb column COLUMNS h)

-- at a place that there isn't
pub past_columns : (columns : Columns) (sheet column : ℕ) → length columns ≤ place_in sheet column → strips_in columns sheet column ≡ []
past_columns columns sheet column h =
    elim (nat_lt column COLUMNS) as (λ t. cond t (strips_at columns (place_in sheet column)) [] ≡ []) [ true ↦ none_past columns (place_in sheet column) h | false ↦ refl ]

-- ---- a cell whose references are taken
pub gone : (references : References) (cell : Cell) → get (finite.remove references cell) cell ≡ None
gone references cell =
    get-remove cells_total references cell cell ∙ ap (λ o. cond (is_eq o) None (get references cell)) (tied_itself cells_total cell)

pub few_left : (references : References) (cell : Cell) → len references ≤ TEXTS → (contains_key references cell ≡ true) ⊎ (len references < TEXTS) → len (finite.remove references cell) < TEXTS
few_left references cell few (inl there) =
    let n = len-remove cells_total references cell ∙ ap (λ b. cond b (len references - 1) (len references)) there in omega (arith, n, few)
few_left references cell few (inr less) =
    let n = no_more _ (len references) (len (finite.remove references cell)) (len-remove cells_total references cell) in omega (arith, n, less)
