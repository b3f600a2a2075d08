-- SUM, MIN and MAX of open arguments.
use Rattle.std.specs.List.{AllByRecursion}
use Rattle.std.specs.Prelude.{flat_map}
use Rattle.std.proofs.Common.{◌≡◌, refl, sym, ap, ◌∙◌, subst, List, [], ◌∷◌, map, ℕ, Option, Some, None, Result, Ok, Err, arith}
use Rattle.fractions.specs.Rational.{ℚ, zero_ℚ, ◌+ℚ◌}
use Rattle.calculations.specs.Calculation.{Calculation, exact, after, sum, done, through}
use Rattle.cell_refs.specs.declared.error_kind.ErrorKind.{ErrorKind}
use Rattle.sheet_model.specs.declared.value.Value.{Value}
use Rattle.sheet_model.specs.declared.value.Value.TheVariants.{Number}
use Rattle.sheet_model.specs.declared.grid.Arg.{Arg}
use Rattle.sheet_model.specs.declared.grid.Arg.TheVariants as arg
use Rattle.sheet_funcs.specs.Arguments.{on_ok, counted}
use Rattle.sheet_funcs.specs.Items.{numbers_of}
use Rattle.sheet_funcs.specs.Sums as values
use Rattle.sheet_funcs.specs.Sums.{sum_of, least, lesser, min_of}
use Rattle.affine_forms.specs.Forms.{Assignment, AffineForm, worth, constant_form, IsForm}
use Rattle.affine_forms.specs.Steps.{added, total}
use Rattle.affine_forms.proofs.Exact.{exact-followed_by, exact-turned_into}
use Rattle.affine_forms.proofs.Worths.{added_worth}
use Rattle.form_values.specs.Meaning.{arg_at}
use Rattle.form_values.specs.Trials.{Trial, Refusal, Breaks, Undecided, made, one, given, fault}
use Rattle.form_values.specs.declared.abs.Abs.{Abs}
use Rattle.form_values.specs.declared.abs.AbsArg.{AbsArg}
use Rattle.form_values.specs.declared.abs.AbsArg.TheVariants.{One}
use Rattle.form_values.specs.Entries.{entry}
use Rattle.form_table.specs.Items.{items_in, first_error, first_open, forms_of, of_items, on_items, sum_form}
use Rattle.form_truth.proofs.Right.{IsRight, IsRightArg, ArgumentVaries}
use Rattle.form_truth.proofs.Exact.{exact-made, exact-and_then}
use Rattle.form_truth.proofs.Formed.{total_is_form}
use Rattle.form_truth.proofs.Fitting.{entry_at, constant_worth}
use Rattle.form_truth.proofs.Collecting.{AreSound, all_items, items_fail, items_give, none_open, first_open_varies, all_forms}
use Rattle.form_truth.proofs.Choosing.{one_bends}

-- a single value as an argument
pub one_right : (value : Assignment → Arg) (number : Assignment → Value) (args : List AbsArg) (c : Trial Abs) → ((x : Assignment) → value x ≡ arg.One (number x)) → IsRight number [] (exact c)
    → IsRightArg value args (exact (one c))
one_right value number args c e h = subst (IsRightArg value args) (sym (exact-and_then c (λ a. given (One a)))) (by_result (exact c) h)
  where
    by_result : (r : Result Abs Refusal) → IsRight number [] r → IsRightArg value args (exact (Rattle.form_values.specs.Trials.on_given r (λ a. given (One a))))
    by_result (Ok a) h = λ x. e x ∙ ap arg.One (h x)
    by_result (Err Breaks) h = one_bends value number e h
    by_result (Err (Undecided i)) h = let s : None ≡ Some h.argument = h.is_there in cc

-- what is made of the numbers of some arguments
module _ (args : List AbsArg) (sound : AreSound args) (value : List ℚ → Value) (row : List AffineForm → Trial Abs)
    (right : IsRight (λ x. value (map (worth x) (forms_of args))) [] (exact (row (forms_of args)))) where
  -- the function of numbers, where there is no error
  abbrev at : (List ℚ → Calculation Arg) → Assignment → Arg
  at function x = exact (on_ok (numbers_of (map (arg_at x) args)) function)

  module _ (function : List ℚ → Calculation Arg) (is : (xs : List ℚ) → exact (function xs) ≡ arg.One (value xs)) where
    by_cases : (k : Option ErrorKind) → first_error (flat_map items_in args) ≡ k → (i : Option ℕ) → first_open 0 args ≡ i → IsRightArg (at function) args (exact (on_items k i (row (forms_of args))))
    by_cases (Some k) e i d = λ x. ap (λ r. exact (on_ok r function)) (items_fail x (flat_map items_in args) _ k (all_items x args sound) e)
    by_cases None e (Some i) d =
        let r = first_open_varies 0 args i sound d in
        let j : i ≡ r.0 = omega (arith, r.1) in
        subst (ArgumentVaries arg_at args) (sym j) r.2
    by_cases None e None d =
        one_right (at function) (λ x. value (map (worth x) (forms_of args))) args (row (forms_of args))
        (λ x. ap (λ r. exact (on_ok r function)) (items_give x (flat_map items_in args) _ (all_items x args sound) e (none_open 0 args d)) ∙ is (map (worth x) (forms_of args)))
        right

    pub of_items_right : IsRightArg (at function) args (exact (of_items args row))
    of_items_right = by_cases (first_error (flat_map items_in args)) refl (first_open 0 args) refl

-- ---- SUM
through_sums : (x : Assignment) (fs : List AffineForm) (so_far : AffineForm) (s : ℚ) → s ≡ worth x so_far
    → exact (through (λ so_far y. after (sum so_far y) done) s (map (worth x) fs)) ≡ worth x (exact (through added so_far fs))
through_sums x [] so_far s e = e
through_sums x (f ∷ fs) so_far s e =
    through_sums x fs (exact (added so_far f)) (s +ℚ worth x f) (ap (λ w. w +ℚ worth x f) e ∙ sym (added_worth x so_far f))
    ∙ ap (worth x) (sym (exact-followed_by (added so_far f) (λ next. through added next fs)))

pub total_worth : (x : Assignment) (fs : List AffineForm) → exact (values.total (map (worth x) fs)) ≡ worth x (exact (total fs))
total_worth x fs = through_sums x fs (constant_form zero_ℚ) zero_ℚ (sym (constant_worth x zero_ℚ))

sum_row : (fs : List AffineForm) → AllByRecursion IsForm fs → IsRight (λ x. Number (exact (values.total (map (worth x) fs)))) [] (exact (made entry (total fs)))
sum_row fs h =
    subst (IsRight (λ x. Number (exact (values.total (map (worth x) fs)))) []) (sym (exact-made entry (total fs)))
    (λ x. ap Number (total_worth x fs) ∙ sym (entry_at x (exact (total fs)) (total_is_form fs h)))

pub sum_right : (args : List AbsArg) → AreSound args → IsRightArg (λ x. exact (sum_of (map (arg_at x) args))) args (exact (sum_form args))
sum_right args sound =
    of_items_right args sound (λ xs. Number (exact (values.total xs))) (λ fs. made entry (total fs)) (sum_row (forms_of args) (all_forms args sound)) (λ xs. counted (values.total xs)) (λ xs. exact-turned_into (λ y. arg.One (Number y)) (values.total xs))
