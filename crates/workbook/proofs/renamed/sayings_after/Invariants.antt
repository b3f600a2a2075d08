use Rattle.workbook.specs.Known.{names_with}
use Rattle.workbook.proofs.Resaid.{AnswersAt, GoesBefore}
use Rattle.workbook.proofs.renamed.sayings_after.Given as goal

-- what has been said goes before what is still to be said of the cells that are left
abbrev pub invariant-loop-cell : goal.invariant-loop-cell
invariant-loop-cell l =
    GoesBefore (AnswersAt l.edit.sheets.now l.edit.before.now (names_with l.edit) l.cells.entries) l.initial.cell-iterator l.cell-iterator l.said.items
