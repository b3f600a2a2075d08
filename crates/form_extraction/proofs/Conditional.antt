-- SUMIF over parts of formulas.
use Rattle.std.specs.Prelude.{◌≡◌, ◌+◌, ◌&&◌, ◌==◌, filter, zip, slice_index_or}
use Rattle.std.proofs.Common.{refl, sym, ap, ap₂, ◌∙◌, subst, Bool, true, false, if◌then◌else◌, List, [], ◌∷◌, map, Option, Some, None, Result, Ok, Err, ℕ, suc, arith}
use Rattle.std.specs.List.{AllByRecursion, filter_map}
use Rattle.calculations.specs.Calculation.{Calculation, exact}
use Rattle.cell_refs.specs.declared.cell.Cell.{Cell}
use Rattle.cell_refs.specs.declared.span.Span.{Span}
use Rattle.cell_refs.specs.declared.error_kind.ErrorKind.{ErrorKind}
use Rattle.cell_refs.specs.declared.error_kind.ErrorKind.TheVariants as kind
use Rattle.formula_ast.specs.Tree.{Tree, Trees, none, more}
use Rattle.sheet_model.specs.declared.value.Value.{Value}
use Rattle.sheet_model.specs.declared.value.Value.TheVariants.{Number, Text, Logical, Empty, Error}
use Rattle.sheet_model.specs.declared.grid.Arg.{Arg}
use Rattle.sheet_funcs.specs.Arguments.{value_of, grid_of, no_error, on_ok, answered, counted}
use Rattle.sheet_funcs.specs.Items.{number_at, numbers_among}
use Rattle.sheet_funcs.specs.Sums.{total}
use Rattle.sheet_funcs.specs.Products.{is_of_size}
use Rattle.sheet_funcs.specs.Criteria.{meets, sum_where, sumif_by, sumif_of}
use Rattle.sheet_funcs.specs.Arguments as functions
use Rattle.recalculation.specs.Evaluation.{CellGrid, evaluated, all_evaluated}
use Rattle.affine_forms.specs.Forms.{Assignment}
use Rattle.form_values.proofs.Opening.{arg_sound}
use Rattle.form_values.specs.Meaning.{abs_at, arg_at}
use Rattle.form_values.specs.Trials.{Refusal}
use Rattle.form_values.specs.declared.abs.Abs.{Abs}
use Rattle.form_values.specs.declared.abs.Abs.TheVariants.{Known, Affine, Test}
use Rattle.form_values.specs.declared.abs.AbsArg.{AbsArg}
use Rattle.form_values.specs.declared.abs.AbsArg.TheVariants.{One, Area}
use Rattle.form_table.specs.Wanted as wanted
use Rattle.form_table.specs.Lookups.{known_value, known_keys, error_of}
use Rattle.form_table.specs.Criteria.{places_from, by_known, met_places, sum_of_elements, summed_error, summed_error_by}
use Rattle.form_truth.specs.Rows.{IsOutcomeOf, Represents}
use Rattle.form_truth.proofs.Rows.{summed_is_right}
use Rattle.form_truth.proofs.CertainSums.{certain_is_summed}
use Rattle.form_truth.proofs.Varying.{value_known, grid_known}
use Rattle.form_extraction.specs.Parts.{Part, on_part, tried_on, outcome_by}
use Rattle.form_extraction.specs.declared.forms.Outcome.{Outcome}
use Rattle.form_extraction.specs.declared.forms.Outcome.TheVariants.{Gives, Refused, Without}
use Rattle.form_extraction.specs.Sources.{Source, on_source, elements_at, taken}
use Rattle.form_extraction.specs.Calls.{fails, unless_error, seen_before, sum_at, sum_over, sumif_outcome}
use Rattle.form_extraction.specs.Formulas.{part_of, parts_of}
use Rattle.form_extraction.proofs.Worth.{IsWorth, Agree, PartIsTrue, ArePartsTrue}
use Rattle.form_extraction.proofs.Parts.{given_first, tried_first, gives_same}
use Rattle.form_truth.proofs.Arguments.{value_at}
use Rattle.form_extraction.proofs.Choices.{error_worth}
use Rattle.form_extraction.proofs.Picking.{Matches, source_first, taken_match, on_some}

-- ---- the elements that are added, by their places
no_others : (us : List Value) → zip {X = Value} us [] ≡ []
no_others [] = refl
no_others (u ∷ us) = refl

-- where there are no elements, those places have no numbers
no_numbers : (criterion : Value) (us : List Value) (i : ℕ) (g : ℕ → Value) → ((k : ℕ) → g (i + k) ≡ Empty) → filter_map number_at (map g (places_from i criterion us)) ≡ []
no_numbers criterion [] i g h = refl
no_numbers criterion (u ∷ us) i g h = by_test (meets criterion u) (no_numbers criterion us (suc i) g (λ k. ap g (next k) ∙ h (suc k)))
  where
    next : (k : ℕ) → suc i + k ≡ i + suc k
    next k = omega arith

    here : g i ≡ Empty
    here = ap g (omega arith) ∙ h 0

    by_test : (b : Bool) → filter_map number_at (map g (places_from (suc i) criterion us)) ≡ []
        → filter_map number_at (map g (if b then i ∷ places_from (suc i) criterion us else places_from (suc i) criterion us)) ≡ []
    by_test true e = ap (λ v. filter_map number_at (v ∷ map g (places_from (suc i) criterion us))) here ∙ e
    by_test false e = e

abbrev met_among : Value → List Value → List Value → List Value
met_among criterion us vs = map (λ (p : Value × Value). p.1) (filter (λ (p : Value × Value). meets criterion p.0) (zip us vs))

met_numbers : (criterion : Value) (us vs : List Value) (i : ℕ) (g : ℕ → Value) → ((k : ℕ) → g (i + k) ≡ slice_index_or vs k Empty)
    → filter_map number_at (met_among criterion us vs) ≡ filter_map number_at (map g (places_from i criterion us))
met_numbers criterion [] vs i g h = refl
met_numbers criterion (u ∷ us) [] i g h = sym (no_numbers criterion (u ∷ us) i g h)
met_numbers criterion (u ∷ us) (v ∷ vs) i g h = by_test (meets criterion u) (met_numbers criterion us vs (suc i) g (λ k. ap g (next k) ∙ h (suc k)))
  where
    next : (k : ℕ) → suc i + k ≡ i + suc k
    next k = omega arith

    here : v ≡ g i
    here = sym (ap g (omega arith) ∙ h 0)

    by_test : (b : Bool) → filter_map number_at (met_among criterion us vs) ≡ filter_map number_at (map g (places_from (suc i) criterion us))
        → filter_map number_at (map (λ (p : Value × Value). p.1) (if b then (u, v) ∷ filter (λ (p : Value × Value). meets criterion p.0) (zip us vs) else filter (λ (p : Value × Value). meets criterion p.0) (zip us vs)))
        ≡ filter_map number_at (map g (if b then i ∷ places_from (suc i) criterion us else places_from (suc i) criterion us))
    by_test true e = ap₂ (λ v ws. Rattle.std.specs.List.cons_option (number_at v) ws) here e
    by_test false e = e

-- ---- errors and known criteria
error_known : (x : Assignment) (b : Abs) (k : ErrorKind) → error_of b ≡ Some k → abs_at x b ≡ Error k
error_known x (Known (Error l)) k e = let s : l ≡ k = cc in ap Error s
error_known x (Known (Number y)) k e = cc
error_known x (Known (Text y)) k e = cc
error_known x (Known (Logical y)) k e = cc
error_known x (Known Empty) k e = cc
error_known x (Affine f) k e = cc
error_known x (Test f r) k e = cc

no_error_known : (x : Assignment) (b : Abs) → error_of b ≡ None → no_error (abs_at x b) ≡ Ok (abs_at x b)
no_error_known x (Known (Error l)) e = cc
no_error_known x (Known (Number y)) e = refl
no_error_known x (Known (Text y)) e = refl
no_error_known x (Known (Logical y)) e = refl
no_error_known x (Known Empty) e = refl
no_error_known x (Affine f) e = refl
no_error_known x (Test f r) e = refl

-- places that are given are those of known elements
record PlacesKnown (tested : List Abs) (b : Abs) (places : List ℕ) : Type 0 where
  elements : List Value
  criterion : Value
  elements_known : known_keys tested ≡ Some elements
  criterion_known : known_value b ≡ Some criterion
  same : places_from 0 criterion elements ≡ places

places_known : (tested : List Abs) (b : Abs) (places : List ℕ) → exact (met_places tested b) ≡ Ok places → PlacesKnown tested b places
places_known tested b places e = by_cases (known_keys tested) refl (known_value b) refl e
  where
    by_cases : (us : Option (List Value)) → known_keys tested ≡ us → (c : Option Value) → known_value b ≡ c → exact (by_known us c) ≡ Ok places → PlacesKnown tested b places
    by_cases None d c f h = cc
    by_cases (Some us) d None f h = cc
    by_cases (Some us) d (Some c) f h = let s : places_from 0 c us ≡ places = cc in record { elements = us; criterion = c; elements_known = d; criterion_known = f; same = s }

represents : (value : Assignment → Arg) (args : List AbsArg) (r : Result AbsArg Refusal) (a : AbsArg) → IsOutcomeOf value args r → r ≡ Ok a → Represents value a
represents value args (Ok b) a h e = let s : b ≡ a = cc in subst (Represents value) s h
represents value args (Err r) a h e = cc

same_rows : (x : Assignment) (a : AbsArg) → (grid_of (arg_at x a)).rows ≡ (wanted.grid_of a).rows
same_rows x (One a) = refl
same_rows x (Area g) = refl

same_columns : (x : Assignment) (a : AbsArg) → (grid_of (arg_at x a)).columns ≡ (wanted.grid_of a).columns
same_columns x (One a) = refl
same_columns x (Area g) = refl

same_items : (x : Assignment) (a : AbsArg) → (grid_of (arg_at x a)).items ≡ map (abs_at x) (wanted.grid_of a).items
same_items x (One a) = refl
same_items x (Area g) = refl

-- ---- errors that are certainly summed
-- an error that is certain by what is seen before is the first among the summed elements
abbrev IsCertain : Assignment → List Abs → List Value → Type 0
IsCertain x seen us =
    (criterion : Value) (tested : List Abs) (k : ErrorKind) → summed_error criterion seen tested ≡ Some k → numbers_among (met_among criterion (map (abs_at x) tested) us) ≡ Err k

nothing_certain : (x : Assignment) (us : List Value) → IsCertain x [] us
nothing_certain x us criterion tested k e = cc

module _ (x : Assignment) (forms : Cell → Option Abs) (values : Cell → Value) (agree : Agree x forms values) where
  -- ---- the sum over a source
  module _ (whole : Span) (parts : List Part) (s : Source) (summed : Arg) (m : Matches x s (grid_of summed)) (seen : List Abs) (certain : IsCertain x seen (grid_of summed).items) (tested criterion : AbsArg) where
    abbrev numbers : Value → Calculation Arg
    numbers c = on_ok (numbers_among (met_among c (grid_of (arg_at x tested)).items (grid_of summed).items)) (λ xs. counted (total xs))

    by_places : (places : List ℕ) → PlacesKnown (wanted.grid_of tested).items (wanted.value_of criterion) places → (a : AbsArg)
        → taken s places (λ items. outcome_by whole parts (sum_of_elements items)) ≡ Gives a → IsWorth x (exact (numbers (abs_at x (wanted.value_of criterion)))) a
    by_places places p a e =
        let o = on_some x forms values agree (elements_at s places) (λ items. outcome_by whole parts (sum_of_elements items)) a e in
        let t = taken_match x forms values agree s (grid_of summed) m places o.0 o.1 in
        let q = tried_first whole parts (sum_of_elements o.0) Gives a o.2 in
        let w = represents _ (Area (record { rows = 1; columns = 1; items = o.0 }) ∷ []) (exact (sum_of_elements o.0)) q.value (summed_is_right (record { rows = 1; columns = 1; items = o.0 })) q.is in
        subst (IsWorth x _) (gives_same q.value a q.goes) (
          arg_sound q.value,
          ap₂ (λ c us. exact (on_ok (numbers_among (met_among c us (grid_of summed).items)) (λ xs. counted (total xs)))) (value_known (wanted.value_of criterion) p.criterion p.criterion_known x)
              (grid_known tested p.elements p.elements_known x)
              ∙ ap (λ rs. exact (on_ok (functions.all_or_error rs) (λ xs. counted (total xs))))
              (met_numbers p.criterion p.elements (grid_of summed).items 0 (λ i. slice_index_or (grid_of summed).items i Empty) (λ k. ap (λ n. slice_index_or (grid_of summed).items n Empty) (omega arith))
              ∙ ap (λ places. filter_map number_at (map (λ i. slice_index_or (grid_of summed).items i Empty) places)) p.same ∙ ap (filter_map number_at) t.1)
              ∙ w x,
        )

    abbrev by_met : Outcome
    by_met = tried_on whole parts (met_places (wanted.grid_of tested).items (wanted.value_of criterion)) (λ places. taken s places (λ items. outcome_by whole parts (sum_of_elements items)))

    certain_numbers : (c : Option Value) → known_value (wanted.value_of criterion) ≡ c → (k : ErrorKind) → summed_error_by c seen (wanted.grid_of tested).items ≡ Some k
        → numbers_among (met_among (abs_at x (wanted.value_of criterion)) (grid_of (arg_at x tested)).items (grid_of summed).items) ≡ Err k
    certain_numbers None d k e = cc
    certain_numbers (Some c) d k e =
        ap₂ (λ c us. numbers_among (met_among c us (grid_of summed).items)) (value_known (wanted.value_of criterion) c d x) (same_items x tested) ∙ certain c (wanted.grid_of tested).items k e

    by_certain : (o : Option ErrorKind) → summed_error_by (known_value (wanted.value_of criterion)) seen (wanted.grid_of tested).items ≡ o → (a : AbsArg) → unless_error o by_met ≡ Gives a
        → IsWorth x (exact (numbers (abs_at x (wanted.value_of criterion)))) a
    by_certain (Some k) d a e =
        subst (λ r. IsWorth x (exact (on_ok r (λ xs. counted (total xs)))) a) (sym (certain_numbers (known_value (wanted.value_of criterion)) refl k d)) (error_worth x k a e)
    by_certain None d a e =
        let q = tried_first whole parts (met_places (wanted.grid_of tested).items (wanted.value_of criterion)) (λ places. taken s places (λ items. outcome_by whole parts (sum_of_elements items))) a e in
        by_places q.value (places_known (wanted.grid_of tested).items (wanted.value_of criterion) q.value q.is) a q.goes

    by_size : (b : Bool) → (a : AbsArg) → (if b then unless_error (summed_error_by (known_value (wanted.value_of criterion)) seen (wanted.grid_of tested).items) by_met else fails kind.Value) ≡ Gives a
        → IsWorth x (exact (if b then numbers (abs_at x (wanted.value_of criterion)) else answered (Error kind.Value))) a
    by_size false a e = error_worth x kind.Value a e
    by_size true a e = by_certain (summed_error_by (known_value (wanted.value_of criterion)) seen (wanted.grid_of tested).items) refl a e

    same_size : is_of_size (grid_of (arg_at x tested)) (grid_of summed) ≡ (((wanted.grid_of tested).rows == s.rows) && ((wanted.grid_of tested).columns == s.columns))
    same_size = ap₂ (λ p q. p && q) (ap₂ ◌==◌ (same_rows x tested) (sym m.rows)) (ap₂ ◌==◌ (same_columns x tested) (sym m.columns))

    sized_true : (a : AbsArg) → sum_at whole parts s seen tested criterion ≡ Gives a → IsWorth x (exact (sum_where (grid_of (arg_at x tested)) (abs_at x (wanted.value_of criterion)) (grid_of summed))) a
    sized_true a e =
        subst (λ b. IsWorth x (exact (if b then numbers (abs_at x (wanted.value_of criterion)) else answered (Error kind.Value))) a) (sym same_size)
        (by_size (((wanted.grid_of tested).rows == s.rows) && ((wanted.grid_of tested).columns == s.columns)) a e)

    by_error : (k : Option ErrorKind) → error_of (wanted.value_of criterion) ≡ k → (a : AbsArg) → unless_error k (sum_at whole parts s seen tested criterion) ≡ Gives a
        → IsWorth x (exact (sumif_by (arg_at x tested) (arg_at x criterion) summed)) a
    by_error (Some k) e a h =
        subst (λ v. IsWorth x (exact (on_ok (no_error v) (λ c. sum_where (grid_of (arg_at x tested)) c (grid_of summed)))) a) (sym (value_at x criterion ∙ error_known x (wanted.value_of criterion) k e)) (error_worth x k a h)
    by_error None e a h =
        subst (λ r. IsWorth x (exact (on_ok r (λ c. sum_where (grid_of (arg_at x tested)) c (grid_of summed)))) a)
        (sym (ap no_error (value_at x criterion) ∙ no_error_known x (wanted.value_of criterion) e)) (sized_true a h)

  -- what is seen before of a part: nothing of a reference, and else all elements
  seen_certain : (v : Tree) → PartIsTrue x forms values v → IsCertain x (seen_before (part_of forms v).reference (part_of forms v).outcome) (grid_of (exact (evaluated values v))).items
  seen_certain v l = by_part (part_of forms v).reference (part_of forms v).outcome (λ a e. l a e)
    where
      by_part : (r : Option CellGrid) (o : Outcome) → ((a : AbsArg) → o ≡ Gives a → IsWorth x (exact (evaluated values v)) a) → IsCertain x (seen_before r o) (grid_of (exact (evaluated values v))).items
      by_part (Some g) o h = nothing_certain x (grid_of (exact (evaluated values v))).items
      by_part None (Gives a) h =
          subst (IsCertain x (wanted.grid_of a).items) (sym (ap (λ v. (grid_of v).items) (h a refl).1 ∙ same_items x a))
          (λ criterion tested k e. certain_is_summed x criterion (wanted.grid_of a).items tested k e)
      by_part None (Refused at cause) h = nothing_certain x (grid_of (exact (evaluated values v))).items
      by_part None Without h = nothing_certain x (grid_of (exact (evaluated values v))).items

  sum_over_true : (whole : Span) (parts : List Part) (t u v : Tree) → PartIsTrue x forms values t → PartIsTrue x forms values u → PartIsTrue x forms values v → (a : AbsArg)
      → sum_over forms whole parts (part_of forms t) (part_of forms u) (part_of forms v) ≡ Gives a
      → IsWorth x (exact (sumif_by (exact (evaluated values t)) (exact (evaluated values u)) (exact (evaluated values v)))) a
  sum_over_true whole parts t u v h k l a e =
      let seen = seen_before (part_of forms v).reference (part_of forms v).outcome in
      let p = given_first (part_of forms t).outcome
      (λ a. on_part (part_of forms u) (λ c. on_source forms (part_of forms v) (λ s. unless_error (error_of (wanted.value_of c)) (sum_at whole parts s seen a c)))) a e in
      let q = given_first (part_of forms u).outcome (λ c. on_source forms (part_of forms v) (λ s. unless_error (error_of (wanted.value_of c)) (sum_at whole parts s seen p.value c))) a p.goes in
      let o = source_first x forms values agree v l (λ s. unless_error (error_of (wanted.value_of q.value)) (sum_at whole parts s seen p.value q.value)) a q.goes in
      let r = h p.value p.is in
      let w = k q.value q.is in
      subst (λ v. IsWorth x v a) (ap₂ (λ tested criterion. exact (sumif_by tested criterion (exact (evaluated values v)))) (sym r.1) (sym w.1))
      (by_error whole parts o.source (exact (evaluated values v)) o.matches seen (seen_certain v l) p.value q.value (error_of (wanted.value_of q.value)) refl a o.goes)

  pub sumif_true : (whole : Span) (ts : Trees) → ArePartsTrue x forms values ts → (a : AbsArg) → sumif_outcome forms whole (parts_of forms ts) ≡ Gives a
      → IsWorth x (exact (sumif_of (map exact (all_evaluated values ts)))) a
  sumif_true whole none h a e = error_worth x kind.Value a e
  sumif_true whole (more t none) h a e = error_worth x kind.Value a e
  sumif_true whole (more t (more u none)) h a e = sum_over_true whole (part_of forms t ∷ part_of forms u ∷ []) t u t h.0 h.1.0 h.0 a e
  sumif_true whole (more t (more u (more v none))) h a e = sum_over_true whole (part_of forms t ∷ part_of forms u ∷ part_of forms v ∷ []) t u v h.0 h.1.0 h.1.1.0 a e
  sumif_true whole (more t (more u (more v (more w ts)))) h a e = error_worth x kind.Value a e
