use Rattle.std.proofs.Common.{None, subst}
use Rattle.workbook.specs.Contents.{IsLast, IsNext}
use Rattle.workbook.proofs.NextCells.{is_last, is_next, nothing_held}
use Rattle.workbook.proofs.workbook.Workbook.first_cell.Goals as goal

pub returns-in-Some : goal.returns-in-Some
returns-in-Some c =
    subst (λ s. IsNext s.contents None c.in-Some.cell.now) c.self.view_is
    (is_next c.self.inside.cells.entries None c.in-Some.cell.now c.in-Some.field-0-1.now c.in-Some.ensures.value tt (λ q past some. c.in-Some.ensures.least q some))

pub returns-in-None : goal.returns-in-None
returns-in-None c =
    subst (λ s. IsLast s.contents None) c.self.view_is
    (is_last c.self.inside.cells.entries None (λ q past. nothing_held c.self.inside.cells.entries q (λ h. let k = c.in-None.ensures.variant.1 h in cc)))
