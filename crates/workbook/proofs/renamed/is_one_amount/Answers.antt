use Rattle.std.proofs.Common.{sym}
use Rattle.fractions.proofs.Order.{ne_of_lt}
use Rattle.workbook.proofs.renamed.is_one_amount.Goals as goal

pub returns-in-Less : goal.returns-in-Less
returns-in-Less c = ne_of_lt c.args.one c.args.other c.in-Less.ensures

pub returns-in-Greater : goal.returns-in-Greater
returns-in-Greater c = λ e. ne_of_lt c.args.other c.args.one c.in-Greater.ensures (sym e)
