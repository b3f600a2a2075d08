use Rattle.std.proofs.Common.{arith}
use Rattle.column_strips.proofs.table.ReferenceTable.spread.Goals as goal

pub loop-next-preserved : goal.loop-next-preserved
loop-next-preserved c = record {
  marks = c.follow_next.ensures.marks;
  space = c.follow_next.ensures.space;
  formulas = c.follow_next.ensures.formulas;
  spreading = c.follow_next.ensures.spreading;
  done = c.follow_next.ensures.done;
  next = omega (arith, c.follow_next.ensures.longer, c.loop-next-test.true, c.len.ensures, c.loop-next.cells.ok.0);
}
