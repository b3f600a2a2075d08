-- What is answered by a row is true where the row is right.
use Rattle.std.proofs.Common.{◌≡◌, sym, subst, false, if◌then◌else◌, List, [], ◌∷◌, map, Result}
use Rattle.std.specs.List.{list_all}
use Rattle.cell_refs.specs.declared.op.Op.{Op}
use Rattle.formula_ast.specs.declared.func.Func.{Func}
use Rattle.sheet_funcs.specs.Arguments.{elements_of}
use Rattle.sheet_funcs.specs.Table.{called}
use Rattle.affine_forms.specs.Forms.{AffineForm}
use Rattle.affine_forms.specs.declared.rel.Rel.{Rel}
use Rattle.form_values.specs.Known.{all_known, values_in, known_arg}
use Rattle.form_values.specs.Refusals.{SomeBends}
use Rattle.form_values.specs.Trials.{Answers, made}
use Rattle.form_values.specs.declared.abs.AbsArg.{AbsArg}
use Rattle.form_values.specs.declared.refusal.OpRefusal.{OpRefusal}
use Rattle.form_table.specs.Choosing.{if_test}
use Rattle.form_table.specs.Operators.{infix_form, minus_form, percent_form}
use Rattle.form_table.specs.Table.{row_of, form_called}
use Rattle.form_truth.specs.Laws.{CallIsRight, called_at}
use Rattle.form_truth.proofs.Joining.{answers_right}
use Rattle.form_truth.proofs.Rows.{infix_is_right, minus_is_right, percent_is_right, choice_is_right}
use Rattle.form_ops.specs.Truths.{IsTrueCall, IsTrueInfix, IsTrueMinus, IsTruePercent, IsTrueChoice}

pub call_true : (f : Func) → CallIsRight f → (args : List AbsArg) (r : Result AbsArg OpRefusal) → list_all all_known args ≡ false → Answers (row_of f args) r → IsTrueCall f args r
call_true f law args r some_open h =
    answers_right (λ value args. SomeBends (λ x. elements_of (value x))) (called_at f args) args (form_called f args) r (law args)
    (subst (λ b. Answers (if b then made known_arg (called f (map values_in args)) else row_of f args) r) (sym some_open) h)

pub infix_true : (o : Op) (a b : AbsArg) (r : Result AbsArg OpRefusal) → Answers (infix_form o a b) r → IsTrueInfix o a b r
infix_true o a b r h =
    answers_right (λ value args. SomeBends (λ x. elements_of (value x))) _ (a ∷ b ∷ []) (infix_form o a b) r (infix_is_right o a b) h

pub minus_true : (a : AbsArg) (r : Result AbsArg OpRefusal) → Answers (minus_form a) r → IsTrueMinus a r
minus_true a r h = answers_right (λ value args. SomeBends (λ x. elements_of (value x))) _ (a ∷ []) (minus_form a) r (minus_is_right a) h

pub percent_true : (a : AbsArg) (r : Result AbsArg OpRefusal) → Answers (percent_form a) r → IsTruePercent a r
percent_true a r h = answers_right (λ value args. SomeBends (λ x. elements_of (value x))) _ (a ∷ []) (percent_form a) r (percent_is_right a) h

pub choice_true : (t : AffineForm) (s : Rel) (holding failing : AbsArg) (r : Result AbsArg OpRefusal) → Answers (if_test t s holding failing) r → IsTrueChoice t s holding failing r
choice_true t s holding failing r h test e =
    answers_right (λ value args. SomeBends (λ x. elements_of (value x))) _ (test ∷ holding ∷ failing ∷ []) (if_test t s holding failing) r
    (choice_is_right test holding failing t s e) h
