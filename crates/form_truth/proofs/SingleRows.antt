-- NOT, N, ISNUMBER and ISBLANK of open values.
use Rattle.std.specs.Prelude.{not}
use Rattle.std.specs.List.{AllByRecursion}
use Rattle.std.proofs.Common.{◌≡◌, refl, sym, ap, ◌∙◌, subst, Bool, true, false, [], ◌∷◌, Result, Ok, Err}
use Rattle.fractions.specs.Rational.{ℚ, zero_ℚ, le_ℚ, eq_ℚ}
use Rattle.calculations.specs.Calculation.{exact}
use Rattle.cell_refs.specs.declared.error_kind.ErrorKind.{ErrorKind}
use Rattle.sheet_model.specs.Conversions.{logical_in}
use Rattle.sheet_model.specs.Tests.{is_zero}
use Rattle.sheet_model.specs.declared.value.Value.TheVariants.{Number, Text, Logical, Empty, Error}
use Rattle.sheet_model.specs.declared.grid.Arg.TheVariants as arg
use Rattle.sheet_funcs.specs.Arguments.{on_ok, answered}
use Rattle.sheet_funcs.specs.Criteria.{is_empty}
use Rattle.sheet_funcs.specs.Information.{n_of, isnumber_of, isblank_of, number_or_zero}
use Rattle.sheet_funcs.specs.Logic.{not_of}
use Rattle.sheet_funcs.specs.Sums as sums
use Rattle.affine_forms.specs.Forms.{Assignment, worth}
use Rattle.form_values.specs.Meaning.{abs_at, arg_at, elements_of}
use Rattle.form_values.proofs.Opening.{IsAbs}
use Rattle.affine_forms.specs.Relations.{holds, reversed}
use Rattle.form_values.specs.Refusals.{Varies}
use Rattle.form_values.specs.Trials.{one}
use Rattle.affine_forms.specs.declared.rel.Rel.{Rel}
use Rattle.affine_forms.specs.declared.rel.Rel.TheVariants as rel
use Rattle.form_values.specs.declared.abs.Abs.{Abs}
use Rattle.form_values.specs.declared.abs.Abs.TheVariants.{Known, Affine, Test}
use Rattle.form_values.specs.declared.abs.AbsArg.{AbsArg}
use Rattle.form_table.specs.Wanted.{value_of}
use Rattle.form_table.specs.Items.{is_number}
use Rattle.form_table.specs.Logic.{not_form, not_abs, not_logical, n_form, n_abs, isnumber_form, isblank_form, is_blank}
use Rattle.form_truth.proofs.Right.{IsRightArg}
use Rattle.form_truth.proofs.Arguments.{value_at, value_sound, argument_varies}
use Rattle.form_truth.proofs.Fitting.{test_varies}

-- ---- tests of 0
pub not_zero : (w : ℚ) → not (is_zero w) ≡ holds rel.Ne w
unfolding eq_ℚ
not_zero w = refl

twice_not : (b : Bool) → not (not b) ≡ b
twice_not true = refl
twice_not false = refl

zero_is_eq : (w : ℚ) → not (not (is_zero w)) ≡ holds rel.Eq w
unfolding eq_ℚ
zero_is_eq w = twice_not (is_zero w)

reversed_holds : (r : Rel) (w : ℚ) → not (holds r w) ≡ holds (reversed r) w
reversed_holds rel.Lt w = twice_not (le_ℚ zero_ℚ w)
reversed_holds rel.Le w = refl
reversed_holds rel.Eq w = refl
reversed_holds rel.Ne w = twice_not (eq_ℚ w zero_ℚ)
reversed_holds rel.Ge w = refl
reversed_holds rel.Gt w = twice_not (le_ℚ w zero_ℚ)

-- ---- NOT
not_result : (x : Assignment) (r : Result Bool ErrorKind) → exact (on_ok r (λ b. answered (Logical (not b)))) ≡ arg.One (abs_at x (not_logical r))
not_result x (Ok b) = refl
not_result x (Err k) = refl

not_at : (x : Assignment) (a : Abs) → exact (on_ok (logical_in (abs_at x a)) (λ b. answered (Logical (not b)))) ≡ arg.One (abs_at x (not_abs a))
not_at x (Known v) = not_result x (logical_in v)
not_at x (Affine o) = ap (λ b. arg.One (Logical b)) (zero_is_eq (worth x o.form))
not_at x (Test o r) = ap (λ b. arg.One (Logical b)) (reversed_holds r (worth x o.form))

pub not_right : (a : AbsArg) → AllByRecursion IsAbs (elements_of a) → IsRightArg (λ x. exact (not_of (arg_at x a))) (a ∷ []) (exact (not_form a))
not_right a h = λ x. ap (λ v. exact (on_ok (logical_in v) (λ b. answered (Logical (not b))))) (value_at x a) ∙ not_at x (value_of a)

-- ---- N
by_value : (a : AbsArg) (b : Abs) → value_of a ≡ b → IsAbs b → IsRightArg (λ x. exact (n_of (arg_at x a))) (a ∷ []) (exact (one (n_abs b)))
by_value a (Known v) e h = λ x. ap (λ w. arg.One (number_or_zero w)) (value_at x a ∙ ap (abs_at x) e)
by_value a (Affine f) e h = λ x. ap (λ w. arg.One (number_or_zero w)) (value_at x a ∙ ap (abs_at x) e)
by_value a (Test f r) e h = record { argument = a; is_there = refl; varies = argument_varies a (subst (λ b. Varies (λ x. abs_at x b)) (sym e) (test_varies f r h)) }

pub plain_number_right : (a : AbsArg) → AllByRecursion IsAbs (elements_of a) → IsRightArg (λ x. exact (n_of (arg_at x a))) (a ∷ []) (exact (n_form a))
plain_number_right a h = by_value a (value_of a) refl (value_sound a h)

-- ---- ISNUMBER and ISBLANK
pub number_same : (x : Assignment) (a : Abs) → sums.is_number (abs_at x a) ≡ is_number a
number_same x (Known (Number y)) = refl
number_same x (Known (Text t)) = refl
number_same x (Known (Logical b)) = refl
number_same x (Known Empty) = refl
number_same x (Known (Error k)) = refl
number_same x (Affine f) = refl
number_same x (Test f r) = refl

blank_same : (x : Assignment) (a : Abs) → is_empty (abs_at x a) ≡ is_blank a
blank_same x (Known (Number y)) = refl
blank_same x (Known (Text t)) = refl
blank_same x (Known (Logical b)) = refl
blank_same x (Known Empty) = refl
blank_same x (Known (Error k)) = refl
blank_same x (Affine f) = refl
blank_same x (Test f r) = refl

pub number_test_right : (a : AbsArg) → AllByRecursion IsAbs (elements_of a) → IsRightArg (λ x. exact (isnumber_of (arg_at x a))) (a ∷ []) (exact (isnumber_form a))
number_test_right a h = λ x. ap (λ v. arg.One (Logical (sums.is_number v))) (value_at x a) ∙ ap (λ b. arg.One (Logical b)) (number_same x (value_of a))

pub blank_test_right : (a : AbsArg) → AllByRecursion IsAbs (elements_of a) → IsRightArg (λ x. exact (isblank_of (arg_at x a))) (a ∷ []) (exact (isblank_form a))
blank_test_right a h = λ x. ap (λ v. arg.One (Logical (is_empty v))) (value_at x a) ∙ ap (λ b. arg.One (Logical b)) (blank_same x (value_of a))
