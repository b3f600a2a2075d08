-- What an answer says of the values under all assignments.
use Rattle.std.specs.Prelude.{◌≡◌, List, [], ◌∷◌, Some, Result}
use Rattle.calculations.specs.Calculation.{exact}
use Rattle.cell_refs.specs.declared.op.Op.{Op}
use Rattle.formula_ast.specs.declared.func.Func.{Func}
use Rattle.sheet_model.specs.Operators.{infix_of, minus_of, percent_of}
use Rattle.sheet_model.specs.declared.grid.Arg.{Arg}
use Rattle.sheet_funcs.specs.Arguments.{elements_of}
use Rattle.affine_forms.specs.Forms.{Assignment, AffineForm}
use Rattle.affine_forms.specs.declared.rel.Rel.{Rel}
use Rattle.form_values.specs.Meaning.{arg_at}
use Rattle.form_values.specs.Refusals.{SomeBends}
use Rattle.form_values.specs.declared.abs.AbsArg.{AbsArg}
use Rattle.form_values.specs.declared.refusal.OpRefusal.{OpRefusal}
use Rattle.form_table.specs.Wanted.{value_of}
use Rattle.form_truth.specs.Answered.{IsAnswer}
use Rattle.form_truth.specs.Laws.{called_at, asked, chosen}

-- what is given is the value under every assignment; where the answer is Break, an element of the value isn't
-- affine; and an argument that leaves it undecided isn't the same under all
abbrev pub IsTrueOf : (Assignment → Arg) → List AbsArg → Result AbsArg OpRefusal → Type 0
IsTrueOf value args answer = IsAnswer value args (SomeBends (λ x. elements_of (value x))) answer

-- of a function's call
abbrev pub IsTrueCall : Func → List AbsArg → Result AbsArg OpRefusal → Type 0
IsTrueCall f args answer = IsTrueOf (called_at f args) args answer

-- of an infix operator, of minus and of %
abbrev pub IsTrueInfix : Op → AbsArg → AbsArg → Result AbsArg OpRefusal → Type 0
IsTrueInfix o a b answer = IsTrueOf (λ x. exact (infix_of o (arg_at x a) (arg_at x b))) (a ∷ b ∷ []) answer

abbrev pub IsTrueMinus : AbsArg → Result AbsArg OpRefusal → Type 0
IsTrueMinus a answer = IsTrueOf (λ x. exact (minus_of (arg_at x a))) (a ∷ []) answer

abbrev pub IsTruePercent : AbsArg → Result AbsArg OpRefusal → Type 0
IsTruePercent a answer = IsTrueOf (λ x. exact (percent_of (arg_at x a))) (a ∷ []) answer

-- of IF, whatever the argument is that asks whether the form is in the relation to 0
abbrev pub IsTrueChoice : AffineForm → Rel → AbsArg → AbsArg → Result AbsArg OpRefusal → Type 0
IsTrueChoice t r holding failing answer =
    (test : AbsArg) → asked (value_of test) ≡ Some (t, r)
    → IsTrueOf (λ x. exact (chosen (arg_at x test) (arg_at x holding) (arg_at x failing))) (test ∷ holding ∷ failing ∷ []) answer
