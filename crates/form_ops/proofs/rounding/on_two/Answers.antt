use Rattle.form_values.specs.declared.abs.AbsArg.TheVariants.{One}
use Rattle.form_table.specs.Wanted.{on_forms}
use Rattle.form_ops.specs.Operands.{wanted_in}
use Rattle.form_ops.specs.Pairings.{certain_error, pairing_row}
use Rattle.form_ops.proofs.Answering.{then_answers}
use Rattle.form_ops.proofs.rounding.on_two.Goals as goal

pub returns-clause-answer : goal.returns-clause-answer
returns-clause-answer c =
    rw (c.as_one.ensures, ← c.operand_in.ensures, ← c.operand_in-2.ensures)
    (then_answers One (on_forms (certain_error c.args.pairing) (pairing_row c.args.pairing) (wanted_in c.operand_in.result) (wanted_in c.operand_in-2.result)) c.on_operands.result c.on_operands.ensures.answer)
