use Rattle.std.proofs.Common.{rules, Ok}
use Rattle.formula_ast.specs.declared.func.Func.TheVariants as func
use Rattle.form_ops.proofs.FromFormTruth.{transpose_is_right}
use Rattle.form_ops.proofs.Truth.{call_true}
use Rattle.form_areas.proofs.matrices.transpose.Goals as goal

pub returns-clause-answer : goal.returns-clause-answer
returns-clause-answer c = search rules

pub returns-clause-right : goal.returns-clause-right
returns-clause-right c = call_true func.Transpose transpose_is_right c.args.args.now (Ok c.in_ok-transpose_elements.field-0) c.requires.open_argument (returns-clause-answer c)
