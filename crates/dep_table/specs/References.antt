-- The areas to which the formulas of a workbook refer.
use Rattle.std.specs.Prelude.{◌≡◌, List, Option, None, Some}
use Rattle.std.specs.FinMap.{get}
use Rattle.cell_refs.specs.Areas.{Area}
use Rattle.cell_refs.specs.declared.cell.Cell.{Cell}
use Rattle.formula_ast.specs.Measures.{references_of}
use Rattle.recalculation.specs.Entries.{Book, Entry, Formula, entry}
pub use Rattle.column_strips.specs.Formulas.{References}

-- those of what a cell says
abbrev pub areas_said : Option Entry → Option (List Area)
areas_said (Some (Formula t)) = Some (references_of t)
areas_said _ = None

-- the references are those of a workbook
abbrev pub AreReferencesOf : References → Book → Type 0
AreReferencesOf references book = (a : Cell) → get references a ≡ areas_said (entry book a)
