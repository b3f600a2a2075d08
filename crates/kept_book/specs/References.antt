-- References that are kept beside a workbook.
use Rattle.std.specs.Prelude.{◌≡◌, true, List, Contains, IfSome, Option, None, Some}
use Rattle.std.specs.FinMap.{get, insert, remove}
use Rattle.cell_refs.specs.Areas.{Area}
use Rattle.cell_refs.specs.declared.cell.Cell.{Cell}
use Rattle.dep_table.specs.References.{AreReferencesOf, References, areas_said}
use Rattle.recalculation.specs.Entries.{entry}
use Rattle.recalculation.specs.Walks.{is_formula}
use Rattle.workbook.specs.Kinds.{book_of}
use Rattle.workbook.specs.State.{State}

-- where some are kept, they are those of the workbook
abbrev pub AreKept : Option References → State → Type 0
AreKept references book = IfSome references (λ r. AreReferencesOf r (book_of book))

-- but for these cells they are
abbrev pub AreKeptBut : List Cell → State → References → Type 0
AreKeptBut cells book references = (a : Cell) → ¬ (Contains cells a) → get references a ≡ areas_said (entry (book_of book) a)

-- with these areas for a cell, or with none
abbrev pub with_areas : References → Cell → Option (List Area) → References
with_areas references cell None = remove references cell
with_areas references cell (Some areas) = insert references cell areas

-- one of the cells has a formula
abbrev pub HasFormula : List Cell → State → Type 0
HasFormula cells book = (a : Cell) × Contains cells a × (is_formula (entry (book_of book) a) ≡ true)
