use Rattle.formula_ast.specs.declared.func.Func.TheVariants as func
use Rattle.form_ops.proofs.FromFormTruth.{average_is_right}
use Rattle.form_ops.proofs.Truth.{call_true}
use Rattle.form_areas.proofs.sums.average.Goals as goal

pub returns-clause-right : goal.returns-clause-right
returns-clause-right c = call_true func.Average average_is_right c.args.args.now c.average_of.result c.requires.open_argument c.average_of.ensures
