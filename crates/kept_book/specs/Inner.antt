-- What was kept before an edit, while what is kept doesn't follow it yet.
use Rattle.std.specs.Prelude.{List, Contains, Option}
use Rattle.cell_refs.specs.declared.cell.Cell.{Cell}
use Rattle.dep_table.specs.References.{References}
use Rattle.touched_places.specs.Alike.{DifferAt}
use Rattle.workbook.specs.Kinds.{book_of}
use Rattle.workbook.specs.State.{State}
use Rattle.sheet_solving.specs.FromKeptForms.{SheetKept}
use Rattle.kept_book.specs.Kept.{IsKept}

-- it was kept of the workbook as it was before these cells were edited
abbrev pub WereKept : List Cell → Option References → List SheetKept → State → Type 0
WereKept cells references tables after =
    (before : State) × IsKept references (record { book = before; tables = tables }) × DifferAt (Contains cells) (book_of before) (book_of after)
