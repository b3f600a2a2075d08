use Rattle.std.proofs.Common.{◌∙◌, ap, length, sym}
use Rattle.sheet_linear_model.proofs.Printed.{sides_of_rows}
use Rattle.sheet_linear_model.proofs.lines.row_numbers.Goals as goal

pub numbers_among-requires : goal.numbers_among-requires
numbers_among-requires c = ap length c.deref-2.ensures.value ∙ sides_of_rows c.requires.0 c.requires.1 c.args.of.now c.requires.2 ∙ sym (ap length c.deref.ensures.value)
