use Rattle.std.proofs.Common.{rules, Ok}
use Rattle.form_values.specs.declared.abs.Abs.TheVariants.{Known}
use Rattle.form_values.specs.declared.abs.AbsArg.TheVariants.{One}
use Rattle.formula_ast.specs.declared.func.Func.TheVariants as func
use Rattle.sheet_model.specs.declared.value.Value.TheVariants.{Number}
use Rattle.form_ops.proofs.FromFormTruth.{count_is_right}
use Rattle.form_ops.proofs.Truth.{call_true}
use Rattle.form_areas.proofs.sums.count.Goals as goal

pub returns-clause-answer : goal.returns-clause-answer
returns-clause-answer c = search rules

pub returns-clause-right : goal.returns-clause-right
returns-clause-right c = call_true func.Count count_is_right c.args.args.now (Ok (One (Known (Number c.whole.result)))) c.requires.open_argument (returns-clause-answer c)
