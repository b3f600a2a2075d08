use Rattle.std.proofs.Common.{arith}
use Rattle.std.proofs.lemmas.Grind.{common_steps}
use Rattle.formula_ast.specs.declared.func.Func.TheVariants as func
use Rattle.form_truth.proofs.Rows.{mod_is_right}
use Rattle.form_ops.proofs.Truth.{call_true}
use Rattle.form_ops.proofs.rounding.mod_.Goals as goal

pub returns-clause-answer : goal.returns-clause-answer
returns-clause-answer c = grind (arith, common_steps)

pub returns-clause-right : goal.returns-clause-right
returns-clause-right c = call_true func.Mod mod_is_right c.args.args.now c.on_two.result c.requires.open_argument (returns-clause-answer c)
