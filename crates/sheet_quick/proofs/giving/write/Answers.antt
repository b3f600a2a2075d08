use Rattle.sheet_finding.proofs.FromSheetSolving.{full_listed}
use Rattle.sheet_quick.proofs.giving.write.Goals as goal

pub returns-in-Err-NoRoom-clause-said : goal.returns-in-Err-NoRoom-clause-said
returns-in-Err-NoRoom-clause-said c =
    let p = rw c.in-Err-NoRoom.field-0-is at c.in-Err-NoRoom.ensures.puts in
    rw c.in-Err-NoRoom.field-0-is
    (full_listed c.args.book.now.sheets c.args.book.now.contents c.args.statement.now.adj c.args.point.now _ c.requires.listed p.0)
