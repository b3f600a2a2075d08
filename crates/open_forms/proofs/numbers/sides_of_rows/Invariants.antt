use Rattle.std.proofs.Common.{map, take}
use Rattle.std.specs.List.{AllZip}
use Rattle.workbook.specs.Kinds.{book_of}
use Rattle.form_needs.specs.FromSheetProblems.{HasSides}
use Rattle.solver_names.specs.Answers.{row_of}
use Rattle.solver_names.specs.Sides.{sides_in}
use Rattle.open_forms.proofs.numbers.sides_of_rows.Given as goal

-- the rows so far have these sides
abbrev pub invariant-loop-row : goal.invariant-loop-row
invariant-loop-row l = AllZip (HasSides (book_of l.book) (sides_in l.book l.of.sheet.0) l.of.adj) (map row_of (take l.row-index l.rows)) l.sides.items
