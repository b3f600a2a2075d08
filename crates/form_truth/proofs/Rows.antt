-- The rows of the form table are right: functions as they are called, operators, and IF.
use Rattle.std.specs.Prelude.{ℕ, pos}
use Rattle.std.specs.List.{list_all}
use Rattle.std.proofs.Common.{◌≡◌, refl, sym, ap, ◌∙◌, subst, Bool, true, false, if◌then◌else◌, List, [], ◌∷◌, map, Some, Ok}
use Rattle.fractions.specs.Whole.{whole_ℚ}
use Rattle.calculations.specs.Calculation.{Calculation, done, exact}
use Rattle.cell_refs.specs.declared.op.Op.{Op}
use Rattle.formula_ast.specs.declared.func.Func.{Func}
use Rattle.formula_ast.specs.declared.func.Func.TheVariants as func
use Rattle.sheet_model.specs.Conversions.{logical_in}
use Rattle.sheet_model.specs.Operators.{single}
use Rattle.sheet_model.specs.declared.value.Value.TheVariants.{Number, Text, Logical, Empty, Error}
use Rattle.sheet_model.specs.declared.grid.Arg.{Arg}
use Rattle.sheet_model.specs.declared.grid.Arg.TheVariants as arg
use Rattle.sheet_funcs.specs.Arguments as functions
use Rattle.sheet_funcs.specs.Arguments.{on_ok}
use Rattle.sheet_funcs.specs.Information.{n_of, isnumber_of, isblank_of, rows_of, columns_of}
use Rattle.sheet_funcs.specs.Logic.{not_of}
use Rattle.sheet_funcs.specs.Products.{transpose_of}
use Rattle.sheet_funcs.specs.Rounding.{abs_of, int_of, mod_of, power_of}
use Rattle.sheet_funcs.specs.Table.{called}
use Rattle.affine_forms.specs.Forms.{Assignment, AffineForm, worth}
use Rattle.affine_forms.specs.declared.rel.Rel.{Rel}
use Rattle.affine_forms.specs.declared.rel.Rel.TheVariants as rel
use Rattle.form_values.specs.Meaning.{abs_at, arg_at}
use Rattle.form_values.proofs.Opening.{IsAbs, IsOpen, IsSound, abs_sound, arg_sound, args_sound}
use Rattle.affine_forms.specs.Relations.{holds}
use Rattle.form_values.specs.Refusals.{Varies}
use Rattle.form_values.specs.Trials.{Trial, made}
use Rattle.form_values.specs.declared.abs.Abs.{Abs}
use Rattle.form_values.specs.declared.abs.Abs.TheVariants.{Known, Affine, Test}
use Rattle.form_values.specs.declared.abs.AbsArg.{AbsArg}
use Rattle.form_values.specs.declared.abs.AbsArg.TheVariants.{One, Area}
use Rattle.form_table.specs.Wanted.{value_of, grid_of}
use Rattle.form_values.specs.Known.{all_known, values_in, known_arg}
use Rattle.form_table.specs.Items.{count_form}
use Rattle.form_table.specs.Logic.{not_form, n_form, isnumber_form, isblank_form}
use Rattle.form_table.specs.Products.{transpose_form}
use Rattle.form_table.specs.Rounding.{bent_form, mod_form, power_form}
use Rattle.form_table.specs.Wanted as values
use Rattle.form_table.specs.Choosing.{or_else}
use Rattle.form_table.specs.Table.{of_one, of_two, row_of, size_form, form_called}
use Rattle.form_truth.specs.Rows.{IsOutcome, IsOutcomeOf}
use Rattle.form_truth.specs.Laws.{called_at, CallIsRight, InfixIsRight, MinusIsRight, PercentIsRight, asked, chosen, ChoiceIsRight, unless_error, IfErrorIsRight, SummedIsRight}
use Rattle.form_truth.specs.Products.{FactorsBend, PairBends, SumProductIsRight, MatrixProductIsRight}
use Rattle.form_truth.proofs.Right.{IsRightArg}
use Rattle.form_truth.proofs.Exact.{exact-made}
use Rattle.form_truth.proofs.Arguments.{value_at, argument_varies}
use Rattle.form_truth.proofs.Fitting.{affine_varies, test_varies}
use Rattle.form_truth.proofs.Joining.{joined, joined_sum}
use Rattle.form_truth.proofs.Knowns.{all_in, known_back}
use Rattle.form_truth.proofs.SingleRows.{not_zero, not_right, plain_number_right, number_test_right, blank_test_right}
use Rattle.form_truth.proofs.Sums.{sum_right}
use Rattle.form_truth.proofs.Means.{average_right, count_right}
use Rattle.form_truth.proofs.Extremes.{min_right}
use Rattle.form_truth.proofs.Greatest.{max_right}
use Rattle.form_truth.proofs.Bent.{abs_right, int_right, mod_right, power_right}
use Rattle.form_truth.proofs.Places.{round_right, round_at_right}
use Rattle.form_truth.proofs.Junctions.{and_right, or_right}
use Rattle.form_truth.proofs.Transposing.{transpose_right}
use Rattle.form_truth.proofs.Matching.{match_right}
use Rattle.form_truth.proofs.Counting.{countif_right}
use Rattle.form_truth.proofs.Dots.{sumproduct_right}
use Rattle.form_truth.proofs.Matrices.{mmult_right}
use Rattle.form_truth.proofs.Elements.{summed_right}
use Rattle.form_truth.proofs.Lifting.{minus_right, percent_right, lifted_infix_right}
use Rattle.form_truth.proofs.Choosing.{choice_right}
use Rattle.form_truth.proofs.Singles.{single_at}

-- ---- what is known goes to the function itself
module _ (f : Func) (args : List AbsArg) (B : Type 0) where
  by_known : (b : Bool) → list_all all_known args ≡ b → (b ≡ false → IsOutcome (called_at f args) args B (exact (row_of f args)))
      → IsOutcome (called_at f args) args B (exact (if b then made known_arg (called f (map values_in args)) else row_of f args))
  by_known true e h =
      subst (IsOutcome (called_at f args) args B) (sym (exact-made known_arg (called f (map values_in args))))
      (λ x. ap (λ vs. exact (called f vs)) (all_in x args e) ∙ sym (known_back x (exact (called f (map values_in args)))))
  by_known false e h = h refl

  pub known_or_row : (list_all all_known args ≡ false → IsOutcome (called_at f args) args B (exact (row_of f args))) → IsOutcome (called_at f args) args B (exact (form_called f args))
  known_or_row h = by_test (list_all all_known args) refl
    where
      by_test : (b : Bool) → list_all all_known args ≡ b → IsOutcome (called_at f args) args B (exact (if b then made known_arg (called f (map values_in args)) else row_of f args))
      by_test b e = by_known b e (λ n. h (e ∙ n))

-- ---- so many arguments
module _ (g : Arg → Calculation Arg) (row : AbsArg → Trial AbsArg)
    (right : (a : AbsArg) → IsSound a → list_all all_known (a ∷ []) ≡ false → IsRightArg (λ x. exact (g (arg_at x a))) (a ∷ []) (exact (row a))) where
  one_argument : (args : List AbsArg) → list_all all_known args ≡ false → IsOutcomeOf (λ x. exact (functions.of_one g (map (arg_at x) args))) args (exact (of_one row args))
  one_argument [] n = λ x. refl
  one_argument (a ∷ []) n = joined (λ x. exact (g (arg_at x a))) (a ∷ []) (exact (row a)) (right a (arg_sound a) n)
  one_argument (a ∷ b ∷ args) n = λ x. refl

module _ (g : Arg → Arg → Calculation Arg) (row : AbsArg → AbsArg → Trial AbsArg)
    (right : (a b : AbsArg) → IsSound a → IsSound b → list_all all_known (a ∷ b ∷ []) ≡ false → IsRightArg (λ x. exact (g (arg_at x a) (arg_at x b))) (a ∷ b ∷ []) (exact (row a b))) where
  two_arguments : (args : List AbsArg) → list_all all_known args ≡ false → IsOutcomeOf (λ x. exact (functions.of_two g (map (arg_at x) args))) args (exact (of_two row args))
  two_arguments [] n = λ x. refl
  two_arguments (a ∷ []) n = λ x. refl
  two_arguments (a ∷ b ∷ []) n = joined (λ x. exact (g (arg_at x a) (arg_at x b))) (a ∷ b ∷ []) (exact (row a b)) (right a b (arg_sound a) (arg_sound b) n)
  two_arguments (a ∷ b ∷ c ∷ args) n = λ x. refl

-- ---- functions of items
pub sum_is_right : CallIsRight func.Sum
sum_is_right args = known_or_row func.Sum args _ (λ n. joined (called_at func.Sum args) args _ (sum_right args (args_sound args)))

pub average_is_right : CallIsRight func.Average
average_is_right args = known_or_row func.Average args _ (λ n. joined (called_at func.Average args) args _ (average_right args (args_sound args)))

pub count_is_right : CallIsRight func.Count
count_is_right args = known_or_row func.Count args _ (λ n. joined (called_at func.Count args) args (exact (count_form args)) (count_right args))

pub min_is_right : CallIsRight func.Min
min_is_right args = known_or_row func.Min args _ (λ n. joined (called_at func.Min args) args _ (min_right args (args_sound args)))

pub max_is_right : CallIsRight func.Max
max_is_right args = known_or_row func.Max args _ (λ n. joined (called_at func.Max args) args _ (max_right args (args_sound args)))

-- ---- functions of numbers
pub abs_is_right : CallIsRight func.Abs
abs_is_right args = known_or_row func.Abs args _ (one_argument abs_of bent_form abs_right args)

pub int_is_right : CallIsRight func.Int
int_is_right args = known_or_row func.Int args _ (one_argument int_of bent_form int_right args)

pub mod_is_right : CallIsRight func.Mod
mod_is_right args = known_or_row func.Mod args _ (two_arguments mod_of mod_form mod_right args)

pub power_is_right : CallIsRight func.Power
power_is_right args = known_or_row func.Power args _ (two_arguments power_of power_form power_right args)

rounded : (args : List AbsArg) → list_all all_known args ≡ false → IsOutcomeOf (called_at func.Round args) args (exact (row_of func.Round args))
rounded [] n = λ x. refl
rounded (a ∷ []) n = joined (called_at func.Round (a ∷ [])) (a ∷ []) _ (round_right a (arg_sound a) n)
rounded (a ∷ b ∷ []) n = joined (called_at func.Round (a ∷ b ∷ [])) (a ∷ b ∷ []) _ (round_at_right a b (arg_sound a) (arg_sound b) n)
rounded (a ∷ b ∷ c ∷ args) n = λ x. refl

pub round_is_right : CallIsRight func.Round
round_is_right args = known_or_row func.Round args _ (rounded args)

-- ---- logicals and information
pub and_is_right : CallIsRight func.And
and_is_right args = known_or_row func.And args _ (λ n. joined (called_at func.And args) args _ (and_right args (args_sound args)))

pub or_is_right : CallIsRight func.Or
or_is_right args = known_or_row func.Or args _ (λ n. joined (called_at func.Or args) args _ (or_right args (args_sound args)))

pub not_is_right : CallIsRight func.Not
not_is_right args = known_or_row func.Not args _ (one_argument not_of not_form (λ a h n. not_right a h) args)

pub true_is_right : CallIsRight func.True
true_is_right args = known_or_row func.True args _ (λ n. λ x. refl)

pub false_is_right : CallIsRight func.False
false_is_right args = known_or_row func.False args _ (λ n. λ x. refl)

pub n_is_right : CallIsRight func.N
n_is_right args = known_or_row func.N args _ (one_argument n_of n_form (λ a h n. plain_number_right a h) args)

pub isnumber_is_right : CallIsRight func.IsNumber
isnumber_is_right args = known_or_row func.IsNumber args _ (one_argument isnumber_of isnumber_form (λ a h n. number_test_right a h) args)

pub isblank_is_right : CallIsRight func.IsBlank
isblank_is_right args = known_or_row func.IsBlank args _ (one_argument isblank_of isblank_form (λ a h n. blank_test_right a h) args)

-- ---- areas and searches
same_rows : (x : Assignment) (a : AbsArg) → (functions.grid_of (arg_at x a)).rows ≡ (grid_of a).rows
same_rows x (One a) = refl
same_rows x (Area g) = refl

same_columns : (x : Assignment) (a : AbsArg) → (functions.grid_of (arg_at x a)).columns ≡ (grid_of a).columns
same_columns x (One a) = refl
same_columns x (Area g) = refl

abbrev counted : ℕ → Arg
counted n = arg.One (Number (whole_ℚ (pos n)))

pub rows_is_right : CallIsRight func.Rows
rows_is_right args = known_or_row func.Rows args _ (one_argument rows_of (size_form (λ g. g.rows)) (λ a h n x. ap counted (same_rows x a)) args)

pub columns_is_right : CallIsRight func.Columns
columns_is_right args = known_or_row func.Columns args _ (one_argument columns_of (size_form (λ g. g.columns)) (λ a h n x. ap counted (same_columns x a)) args)

pub transpose_is_right : CallIsRight func.Transpose
transpose_is_right args = known_or_row func.Transpose args _ (one_argument transpose_of transpose_form (λ a h n. transpose_right a h) args)

pub match_is_right : CallIsRight func.Match
match_is_right args = known_or_row func.Match args _ (λ n. joined (called_at func.Match args) args _ (match_right args (args_sound args)))

pub countif_is_right : CallIsRight func.CountIf
countif_is_right args = known_or_row func.CountIf args _ (λ n. joined (called_at func.CountIf args) args _ (countif_right args (args_sound args)))

pub summed_is_right : SummedIsRight
summed_is_right g = joined _ (Area g ∷ []) _ (summed_right g (arg_sound (Area g)))

pub sumproduct_is_right : SumProductIsRight
sumproduct_is_right args = known_or_row func.SumProduct args (FactorsBend args) (λ n. joined_sum (called_at func.SumProduct args) args (FactorsBend args) _ (sumproduct_right args (args_sound args)))

pub mmult_is_right : MatrixProductIsRight
mmult_is_right a b =
    known_or_row func.MMult (a ∷ b ∷ []) (PairBends a b) (λ n. joined_sum (called_at func.MMult (a ∷ b ∷ [])) (a ∷ b ∷ []) (PairBends a b) _ (mmult_right a b (arg_sound a) (arg_sound b)))

-- ---- operators
pub infix_is_right : (o : Op) → InfixIsRight o
infix_is_right o a b = joined _ (a ∷ b ∷ []) _ (lifted_infix_right o a b (arg_sound a) (arg_sound b))

pub minus_is_right : MinusIsRight
minus_is_right a = joined _ (a ∷ []) _ (minus_right a (arg_sound a))

pub percent_is_right : PercentIsRight
percent_is_right a = joined _ (a ∷ []) _ (percent_right a (arg_sound a))

-- ---- IF
asked_holds : (v : Abs) (t : AffineForm) (r : Rel) → asked v ≡ Some (t, r) → (x : Assignment) → logical_in (abs_at x v) ≡ Ok (holds r (worth x t))
asked_holds (Known w) t r e x = cc
asked_holds (Affine o) t r e x =
    let s : (o.form, rel.Ne) ≡ (t, r) = cc in
    ap Ok (not_zero (worth x o.form)) ∙ ap (λ (p : AffineForm × Rel). Ok (holds p.1 (worth x p.0))) s
asked_holds (Test o q) t r e x =
    let s : (o.form, q) ≡ (t, r) = cc in
    ap (λ (p : AffineForm × Rel). Ok (holds p.1 (worth x p.0))) s

asked_open : (v : Abs) (t : AffineForm) (r : Rel) → asked v ≡ Some (t, r) → IsAbs v → IsOpen t
asked_open (Known w) t r e h = cc
asked_open (Affine o) t r e h = let s : (o.form, rel.Ne) ≡ (t, r) = cc in subst IsOpen (ap (λ (p : AffineForm × Rel). p.0) s) h
asked_open (Test o q) t r e h = let s : (o.form, q) ≡ (t, r) = cc in subst IsOpen (ap (λ (p : AffineForm × Rel). p.0) s) h

asked_varies : (v : Abs) (t : AffineForm) (r : Rel) → asked v ≡ Some (t, r) → IsAbs v → Varies (λ x. abs_at x v)
asked_varies (Known w) t r e h = cc
asked_varies (Affine f) t r e h = affine_varies f h
asked_varies (Test f q) t r e h = test_varies f q h

chosen_is : (test one other : Arg) (b : Bool) → logical_in (functions.value_of test) ≡ Ok b → exact (chosen test one other) ≡ (if b then single one else single other)
chosen_is test one other b e = ap (λ r. exact (on_ok r (λ b. done (single (if b then one else other))))) e ∙ by_test b
  where
    by_test : (b : Bool) → single (if b then one else other) ≡ (if b then single one else single other)
    by_test true = refl
    by_test false = refl

pub choice_is_right : ChoiceIsRight
choice_is_right test one other t r e =
    joined _ (test ∷ one ∷ other ∷ []) _
    (subst (λ (v : Assignment → Arg). IsRightArg v (test ∷ one ∷ other ∷ []) (exact (Rattle.form_table.specs.Choosing.if_test t r one other)))
    (λ k x. sym (chosen_is (arg_at x test) (arg_at x one) (arg_at x other) (holds r (worth x t)) (ap logical_in (value_at x test) ∙ asked_holds (value_of test) t r e x)) k)
    (choice_right t (asked_open (value_of test) t r e (abs_sound (value_of test))) r test one other (argument_varies test (asked_varies (value_of test) t r e (abs_sound (value_of test)))) (arg_sound one) (arg_sound other)))

-- ---- IFERROR
error_or : (x : Assignment) (a other : AbsArg) → unless_error (arg_at x a) (arg_at x other) ≡ arg_at x (or_else other a)
error_or x (One (Known (Error k))) other = single_at x other
error_or x (One (Known (Number y))) other = refl
error_or x (One (Known (Text y))) other = refl
error_or x (One (Known (Logical y))) other = refl
error_or x (One (Known Empty)) other = refl
error_or x (One (Affine f)) other = refl
error_or x (One (Test f r)) other = refl
error_or x (Area g) other = refl

pub iferror_is_right : IfErrorIsRight
iferror_is_right a other = λ x. ap (λ v. unless_error v (arg_at x other)) (single_at x a) ∙ error_or x (values.single a) other
