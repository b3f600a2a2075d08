use Rattle.formula_ast.specs.declared.func.Func.TheVariants as func
use Rattle.form_ops.proofs.FromFormTruth.{sum_is_right}
use Rattle.form_ops.proofs.Truth.{call_true}
use Rattle.form_areas.proofs.sums.sum.Goals as goal

pub returns-clause-right : goal.returns-clause-right
returns-clause-right c = call_true func.Sum sum_is_right c.args.args.now c.sum_of.result c.requires.open_argument c.sum_of.ensures
