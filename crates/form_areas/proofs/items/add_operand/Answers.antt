use Rattle.std.proofs.Common.{ap, sym, ◌∙◌}
use Rattle.form_ops.specs.Operands.{wanted_in}
use Rattle.form_table.specs.Wanted.{form}
use Rattle.form_areas.proofs.AmongItems.{operand_added}
use Rattle.form_areas.proofs.items.add_operand.Goals as goal

pub returns-in-Known : goal.returns-in-Known
returns-in-Known c = operand_added _ (wanted_in c.args.operand.now) c.constant.result _ (ap wanted_in c.in-Known.is ∙ ap form (sym c.constant.ensures)) c.add_to-in-Known.ensures.answer

pub returns-in-Open : goal.returns-in-Open
returns-in-Open c = operand_added _ (wanted_in c.args.operand.now) c.in-Open.form.now _ (ap wanted_in c.in-Open.is) c.add_to-in-Open.ensures.answer
