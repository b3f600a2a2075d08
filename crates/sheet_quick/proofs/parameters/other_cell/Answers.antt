use Rattle.std.proofs.Common.{sym}
use Rattle.workbook.specs.Kinds.{book_of}
use Rattle.sheet_quick.proofs.Walking.{other_found, other_passed}
use Rattle.sheet_quick.proofs.parameters.other_cell.Goals as goal

pub loop-area-preserved : goal.loop-area-preserved
loop-area-preserved c =
    other_passed (book_of c.args.book.now) c.args.adj.now c.args.areas.now c.loop-area.area-index c.area-item.result _ c.loop-area-test.true c.area-item.is c.loop-area.invariant c.in_default.ensures

pub returns-in-Some : goal.returns-in-Some
returns-in-Some c =
    sym (other_found (book_of c.args.book.now) c.args.adj.now c.args.areas.now c.loop-area.area-index c.area-item.result _ c.loop-area-test.true c.area-item.is c.loop-area.invariant c.in-Some.cell c.in-Some.ensures)
