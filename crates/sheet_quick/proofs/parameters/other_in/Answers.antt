use Rattle.std.proofs.Common.{rules, sym}
use Rattle.workbook.specs.Kinds.{book_of}
use Rattle.sheet_quick.proofs.Walking.{other_here, other_later}
use Rattle.sheet_quick.proofs.parameters.other_in.Goals as goal

pub loop-place-preserved : goal.loop-place-preserved
loop-place-preserved c =
    other_later (book_of c.args.book.now) c.args.adj.now c.args.area c.loop-place.place c.at-cell.result (search rules) c.at-cell.ensures (search rules) c.loop-place.invariant

pub returns-then-not-can_be_parameter : goal.returns-then-not-can_be_parameter
returns-then-not-can_be_parameter c =
    sym (other_here (book_of c.args.book.now) c.args.adj.now c.args.area c.loop-place.place c.at-cell.result (search rules) c.at-cell.ensures (search rules) c.loop-place.invariant)
