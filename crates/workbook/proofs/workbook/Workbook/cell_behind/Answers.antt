use Rattle.std.proofs.Common.{Some, subst}
use Rattle.workbook.specs.Contents.{IsLast, IsNext}
use Rattle.workbook.proofs.NextCells.{is_last, is_next}
use Rattle.workbook.proofs.workbook.Workbook.cell_behind.Goals as goal

pub returns-in-Some : goal.returns-in-Some
returns-in-Some c =
    let r = rw c.in-Some.ensures.steps at (c.range.ensures.in_range tt) in
    subst (λ s. IsNext s.contents (Some c.args.after) c.in-Some.cell.now) c.self.view_is
    (is_next c.self.inside.cells.entries (Some c.args.after) c.in-Some.cell.now c.in-Some.field-0-1.now r.1.1 r.1.0.0 (λ q past some. r.2 q (past, tt) some))

pub returns-in-None : goal.returns-in-None
returns-in-None c =
    let r = c.range.ensures.in_range tt in
    subst (λ s. IsLast s.contents (Some c.args.after)) c.self.view_is
    (is_last c.self.inside.cells.entries (Some c.args.after) (λ q past. r.5 c.in-None.ensures.steps.0 q (past, tt)))
