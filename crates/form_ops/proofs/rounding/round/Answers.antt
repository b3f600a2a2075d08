use Rattle.std.proofs.Common.{rules}
use Rattle.formula_ast.specs.declared.func.Func.TheVariants as func
use Rattle.form_truth.proofs.Rows.{round_is_right}
use Rattle.form_ops.proofs.Truth.{call_true}
use Rattle.form_ops.proofs.rounding.round.Goals as goal

pub returns-clause-answer : goal.returns-clause-answer
returns-clause-answer c = search rules

pub returns-clause-right : goal.returns-clause-right
returns-clause-right c = call_true func.Round round_is_right c.args.args.now c.round_open.result c.requires.open_argument (returns-clause-answer c)
