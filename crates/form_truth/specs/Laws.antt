-- The rows of the form table are right of all arguments: of a function as a formula calls it, of the operators on single values
-- and on grids, and of IF with an open test.
use Rattle.std.specs.Prelude.{◌≡◌, if◌then◌else◌, List, [], ◌∷◌, map, Option, Some, None}
use Rattle.calculations.specs.Calculation.{Calculation, done, exact}
use Rattle.cell_refs.specs.declared.op.Op.{Op}
use Rattle.formula_ast.specs.declared.func.Func.{Func}
use Rattle.sheet_model.specs.Conversions.{logical_in}
use Rattle.sheet_model.specs.Operators.{infix_of, minus_of, percent_of, single}
use Rattle.sheet_model.specs.declared.value.Value.TheVariants.{Error}
use Rattle.sheet_model.specs.declared.grid.Arg.{Arg}
use Rattle.sheet_model.specs.declared.grid.Arg.TheVariants.{One}
use Rattle.sheet_funcs.specs.Arguments.{value_of, on_ok, counted}
use Rattle.sheet_funcs.specs.Items.{numbers_among}
use Rattle.sheet_funcs.specs.Sums.{total}
use Rattle.sheet_funcs.specs.Table.{called}
use Rattle.affine_forms.specs.Forms.{Assignment, AffineForm}
use Rattle.affine_forms.specs.declared.rel.Rel.{Rel}
use Rattle.affine_forms.specs.declared.rel.Rel.TheVariants as rel
use Rattle.form_values.specs.Grids.{Raster}
use Rattle.form_values.specs.Meaning.{abs_at, arg_at}
use Rattle.form_values.specs.declared.abs.Abs.{Abs}
use Rattle.form_values.specs.declared.abs.Abs.TheVariants.{Known, Affine, Test}
use Rattle.form_values.specs.declared.abs.AbsArg.{AbsArg}
use Rattle.form_values.specs.declared.abs.AbsArg.TheVariants.{Area}
use Rattle.form_table.specs.Wanted as open_values
use Rattle.form_table.specs.Operators.{infix_form, minus_form, percent_form}
use Rattle.form_table.specs.Choosing.{if_test, iferror_form}
use Rattle.form_table.specs.Criteria.{sum_of_elements}
use Rattle.form_table.specs.Table.{form_called}
use Rattle.form_truth.specs.Rows.{IsOutcomeOf, Represents}

-- ---- functions
-- the function's value at an assignment
abbrev pub called_at : Func → List AbsArg → Assignment → Arg
called_at f args x = exact (called f (map (arg_at x) args))

-- the row of a function
abbrev pub CallIsRight : Func → Type 0
CallIsRight f = (args : List AbsArg) → IsOutcomeOf (called_at f args) args (exact (form_called f args))

-- ---- operators
abbrev pub InfixIsRight : Op → Type 0
InfixIsRight o =
    (a b : AbsArg) → IsOutcomeOf (λ x. exact (infix_of o (arg_at x a) (arg_at x b))) (a ∷ b ∷ []) (exact (infix_form o a b))

abbrev pub MinusIsRight : Type 0
MinusIsRight = (a : AbsArg) → IsOutcomeOf (λ x. exact (minus_of (arg_at x a))) (a ∷ []) (exact (minus_form a))

abbrev pub PercentIsRight : Type 0
PercentIsRight = (a : AbsArg) → IsOutcomeOf (λ x. exact (percent_of (arg_at x a))) (a ∷ []) (exact (percent_form a))

-- ---- IF
-- what an open value asks as a test: a form whether it isn't 0
abbrev pub asked : Abs → Option (AffineForm × Rel)
asked (Known v) = None
asked (Affine o) = Some (o.form, rel.Ne)
asked (Test o r) = Some (o.form, r)

-- IF of a test and two branches
abbrev pub chosen : Arg → Arg → Arg → Calculation Arg
chosen test one other = on_ok (logical_in (value_of test)) (λ b. done (single (if b then one else other)))

abbrev pub ChoiceIsRight : Type 0
ChoiceIsRight =
    (test one other : AbsArg) (t : AffineForm) (r : Rel) → asked (open_values.value_of test) ≡ Some (t, r) → IsOutcomeOf (λ x. exact (chosen (arg_at x test) (arg_at x one) (arg_at x other))) (test ∷ one ∷ other ∷ []) (exact (if_test t r one other))

-- ---- IFERROR: the second where the first is an error
abbrev pub unless_error : Arg → Arg → Arg
unless_error (One (Error k)) other = single other
unless_error v other = v

abbrev pub IfErrorIsRight : Type 0
IfErrorIsRight = (a other : AbsArg) → Represents (λ x. unless_error (single (arg_at x a)) (arg_at x other)) (iferror_form a other)

-- ---- the sum that SUMIF makes of the elements that it adds
abbrev pub SummedIsRight : Type 0
SummedIsRight =
    (g : Raster) → IsOutcomeOf (λ x. exact (on_ok (numbers_among (map (abs_at x) g.items)) (λ xs. counted (total xs)))) (Area g ∷ []) (exact (sum_of_elements g.items))
