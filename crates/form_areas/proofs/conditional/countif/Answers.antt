use Rattle.formula_ast.specs.declared.func.Func.TheVariants as func
use Rattle.form_ops.proofs.FromFormTruth.{countif_is_right}
use Rattle.form_ops.proofs.Truth.{call_true}
use Rattle.form_areas.proofs.conditional.countif.Goals as goal

pub returns-clause-right : goal.returns-clause-right
returns-clause-right c = call_true func.CountIf countif_is_right c.args.args.now c.count_open.result c.requires.open_argument c.count_open.ensures.answer
