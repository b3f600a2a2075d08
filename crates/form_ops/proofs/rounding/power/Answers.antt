use Rattle.std.proofs.Common.{◌≡◌, ◌≤◌, ◌<◌, List, [], ◌∷◌, length, slice_index_or, Result, arith, subst}
use Rattle.formula_ast.specs.declared.func.Func.TheVariants as func
use Rattle.form_values.specs.Trials.{Answers}
use Rattle.form_values.specs.declared.abs.AbsArg.{AbsArg}
use Rattle.form_values.specs.declared.refusal.OpRefusal.{OpRefusal}
use Rattle.form_table.specs.Rounding.{power_form}
use Rattle.form_table.specs.Table.{of_two}
use Rattle.form_truth.proofs.Rows.{power_is_right}
use Rattle.form_ops.proofs.Truth.{call_true}
use Rattle.form_ops.proofs.rounding.power.Goals as goal

-- two arguments are the base and the exponent
of_pair : (args : List AbsArg) (a b : AbsArg) (r : Result AbsArg OpRefusal) → 2 ≤ length args → length args < 3 → a ≡ slice_index_or args 0 a → b ≡ slice_index_or args 1 b
    → Answers (power_form a b) r → Answers (of_two power_form args) r
of_pair [] a b r l m e f h = absurd (omega (arith, l))
of_pair (x ∷ []) a b r l m e f h = absurd (omega (arith, l))
of_pair (x ∷ y ∷ []) a b r l m e f h = subst (λ p. Answers (power_form p y) r) e (subst (λ q. Answers (power_form a q) r) f h)
of_pair (x ∷ y ∷ z ∷ others) a b r l m e f h = absurd (omega (arith, m))

pub returns-clause-answer : goal.returns-clause-answer
returns-clause-answer c =
    of_pair c.args.args.now c.base-item.result c.exponent-item.result c.on_two.result c.in-len2.len_at_least c.in-len2.len_below c.base-item.is c.exponent-item.is c.on_two.ensures.answer

pub returns-clause-right : goal.returns-clause-right
returns-clause-right c = call_true func.Power power_is_right c.args.args.now c.on_two.result c.requires.open_argument (returns-clause-answer c)
