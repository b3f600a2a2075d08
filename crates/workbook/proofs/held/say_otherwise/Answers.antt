use Rattle.std.proofs.Common.{◌∙◌}
use Rattle.workbook.specs.Held.{held_at}
use Rattle.workbook.specs.Renamed.{resaid, said_at}
use Rattle.workbook.proofs.Resaid.{said_on}
use Rattle.workbook.proofs.held.say_otherwise.Goals as goal

pub loop-cell-preserved : goal.loop-cell-preserved
loop-cell-preserved c = record {
  all = λ q. said_on c.loop-cell.said.items c.pop.new.self.items c.in-Some.cell c.in-Some.other c.loop-cell.cells.entries c.say_over.new.cells.entries q
      (resaid (said_at c.args.said.items q) (held_at c.args.cells.now.entries q)) c.in-Some.ensures.items (c.say_over.ensures.resaid q) (c.loop-cell.invariant.all q);
  len = c.say_over.ensures.len ∙ c.loop-cell.invariant.len;
}
