-- The sum of SUMIF and the cells that it looks at, by the grid that is summed.
use Rattle.std.proofs.Common.{◌≡◌, ◌&&◌, ◌==◌, refl, sym, ap, ap₂, ◌∙◌, Bool, true, false, if◌then◌else◌, arith, ℕ, List, [], Option, Some, None, Ok}
use Rattle.std.proofs.lemmas.Bool.Decides.{nat_tests}
use Rattle.calculations.specs.Calculation.{narrow}
use Rattle.cell_refs.specs.declared.cell.Cell.{Cell}
use Rattle.cell_refs.specs.declared.error_kind.ErrorKind.TheVariants as kind
use Rattle.cell_refs.specs.declared.span.Span.{Span}
use Rattle.recalculation.specs.Evaluation.{CellGrid}
use Rattle.recalculation.specs.Looks.{then_cells}
use Rattle.form_values.specs.declared.abs.Abs.{Abs}
use Rattle.form_values.specs.declared.abs.AbsArg.{AbsArg}
use Rattle.form_values.specs.declared.abs.AbsArg.TheVariants.{One, Area}
use Rattle.form_values.specs.Meaning.{elements_of}
use Rattle.form_table.specs.Criteria.{summed_error_by, met_places, sum_of_elements}
use Rattle.form_table.specs.Lookups.{known_value, error_of}
use Rattle.form_table.specs.Wanted.{grid_of, value_of}
use Rattle.form_extraction.specs.Calls.{fails, seen_before, sum_at, sum_over, unless_error}
use Rattle.form_extraction.specs.Deciding.{cells_at, given_by, given_of}
use Rattle.form_extraction.specs.Parts.{Part, on_part, outcome_by, tried, tried_on, value_in}
use Rattle.form_extraction.specs.Sources as grids
use Rattle.form_extraction.specs.Sources.{in_source, of_cells, of_raster, on_source, taken}
use Rattle.form_extraction.specs.declared.forms.Outcome.{Outcome}
use Rattle.form_extraction.specs.declared.forms.Outcome.TheVariants.{Gives, Refused, Without}
use Rattle.form_calls.specs.Criteria.{cells_seen, met_unless, sum_cells}
use Rattle.form_calls.specs.Sources.{cells_in}
use Rattle.form_calls.specs.declared.source.Source.{Source}
use Rattle.form_calls.proofs.Outcomes.{goes_on, seen_values}

module _ (forms : Cell → Option Abs) (whole : Span) (ps : List Part) (t c s : Part) (a q : AbsArg) (e : value_in t.outcome ≡ Some a) (d : value_in c.outcome ≡ Some q) where
  abbrev sum_in : List Abs → grids.Source → Outcome
  sum_in seen source = unless_error (error_of (value_of q)) (sum_at whole ps source seen a q)

  -- the sum over the part, as if it were a reference or not
  abbrev sum_by : Option CellGrid → Outcome
  sum_by r = in_source r forms s (sum_in (seen_before r s.outcome))

  given : sum_over forms whole ps t c s ≡ sum_by s.reference
  given =
      let seen = seen_before s.reference s.outcome in
      goes_on t.outcome (λ a. on_part c (λ q. on_source forms s (λ source. unless_error (error_of (value_of q)) (sum_at whole ps source seen a q)))) a e
      ∙ goes_on c.outcome (λ q. on_source forms s (λ source. unless_error (error_of (value_of q)) (sum_at whole ps source seen a q))) q d

  pub sum_over_cells : (g : CellGrid) → s.reference ≡ Some g → unless_error (error_of (value_of q)) (sum_at whole ps (of_cells forms g) [] a q) ≡ sum_over forms whole ps t c s
  sum_over_cells g r = sym (given ∙ ap sum_by r)

  pub sum_over_values : (v : AbsArg) → s.reference ≡ None → value_in s.outcome ≡ Some v → unless_error (error_of (value_of q)) (sum_at whole ps (of_raster (grid_of v)) (grid_of v).items a q) ≡ sum_over forms whole ps t c s
  sum_over_values v r k =
      sym (given ∙ ap sum_by r ∙ goes_on s.outcome (λ v. sum_in (seen_before None s.outcome) (of_raster (grid_of v))) v k
      ∙ ap (λ seen. sum_in seen (of_raster (grid_of v))) (seen_values s.outcome v k))

-- ---- the cells
each_place : (o : Option (List ℕ)) (f g : List ℕ → List Cell) → ((places : List ℕ) → f places ≡ g places) → then_cells o f ≡ then_cells o g
each_place None f g h = refl
each_place (Some places) f g h = h places

no_place : (o : Option (List ℕ)) (f : List ℕ → List Cell) → ((places : List ℕ) → f places ≡ []) → then_cells o f ≡ []
no_place None f h = refl
no_place (Some places) f h = h places

-- ---- the sum in the places that meet the criterion
pub elements_same : (a : AbsArg) → elements_of a ≡ (grid_of a).items
elements_same (One v) = refl
elements_same (Area g) = refl

itself : (n : ℕ) → (n == n) ≡ true
itself n = grind (arith, nat_tests)

is_equal : (m n : ℕ) → m ≡ n → (m == n) ≡ true
is_equal m n e = ap (λ k. k == n) e ∙ itself n

module _ (rows columns : ℕ) (a : AbsArg) (q : Abs) (places : List ℕ) (e : error_of q ≡ None) (r : (grid_of a).rows ≡ rows) (d : (grid_of a).columns ≡ columns)
    (m : narrow (met_places (grid_of a).items q) ≡ Some (Ok places)) where
  same_size : (((grid_of a).rows == rows) && ((grid_of a).columns == columns)) ≡ true
  same_size = ap₂ (λ b c. b && c) (is_equal (grid_of a).rows rows r) (is_equal (grid_of a).columns columns d)

  pub cells_placed : (f : List ℕ → List Cell) → f places ≡ then_cells (met_unless (error_of q) rows columns a q) f
  cells_placed f =
      sym (ap (λ o. then_cells (met_unless o rows columns a q) f) e
      ∙ ap (λ b. then_cells (if b then given_by (met_places (grid_of a).items q) else None) f) same_size
      ∙ ap (λ o. then_cells (given_of o) f) m)

pub sum_placed : (whole : Span) (ps : List Part) (s : grids.Source) (seen : List Abs) (a q : AbsArg) (places : List ℕ) → error_of (value_of q) ≡ None
    → (grid_of a).rows ≡ s.rows → (grid_of a).columns ≡ s.columns → summed_error_by (known_value (value_of q)) seen (grid_of a).items ≡ None
    → narrow (met_places (grid_of a).items (value_of q)) ≡ Some (Ok places)
    → taken s places (λ items. outcome_by whole ps (sum_of_elements items)) ≡ unless_error (error_of (value_of q)) (sum_at whole ps s seen a q)
sum_placed whole ps s seen a q places e r d n m =
    let summed : List ℕ → Outcome = λ places. taken s places (λ items. outcome_by whole ps (sum_of_elements items)) in
    let by_met : Outcome = tried_on whole ps (met_places (grid_of a).items (value_of q)) summed in
    sym (ap (λ o. unless_error o (sum_at whole ps s seen a q)) e
    ∙ ap (λ b. if b then unless_error (summed_error_by (known_value (value_of q)) seen (grid_of a).items) by_met else fails kind.Value) (same_size s.rows s.columns a (value_of q) places e r d m)
    ∙ ap (λ o. unless_error o by_met) n
    ∙ ap (tried whole ps summed) m)

pub seen_cells : (seen : Bool) (r : Option CellGrid) (g : CellGrid) (t c : Part) (a q : AbsArg) (s : Source) → ((places : List ℕ) → cells_in s places ≡ cells_at g places)
    → value_in t.outcome ≡ Some a → value_in c.outcome ≡ Some q → r ≡ Some g
    → then_cells (met_unless (error_of (value_of q)) g.rows g.columns a (value_of q)) (cells_seen seen s) ≡ sum_cells seen r t c
seen_cells true r g t c a q s h e d k =
    each_place (met_unless (error_of (value_of q)) g.rows g.columns a (value_of q)) (cells_seen true s) (cells_at g) h
    ∙ sym (ap (λ r. sum_cells true r t c) k
    ∙ ap (λ o. then_cells o (λ a. then_cells (value_in c.outcome) (λ q. then_cells (met_unless (error_of (value_of q)) g.rows g.columns a (value_of q)) (cells_at g)))) e
    ∙ ap (λ o. then_cells o (λ q. then_cells (met_unless (error_of (value_of q)) g.rows g.columns a (value_of q)) (cells_at g))) d)
seen_cells false r g t c a q s h e d k = no_place (met_unless (error_of (value_of q)) g.rows g.columns a (value_of q)) (cells_seen false s) (λ places. refl)

pub unseen_cells : (seen : Bool) (r : Option CellGrid) (t c : Part) (s : Source) (o : Option (List ℕ)) → ((places : List ℕ) → cells_in s places ≡ []) → r ≡ None → then_cells o (cells_seen seen s) ≡ sum_cells seen r t c
unseen_cells true r t c s o h k = no_place o (cells_seen true s) h ∙ sym (ap (λ r. sum_cells true r t c) k)
unseen_cells false r t c s o h k = no_place o (cells_seen false s) (λ places. refl)
