-- What a part of a formula looks at: cells, and the cells of areas.
use Rattle.std.specs.Prelude.{List, length, [], ◌∷◌, flat_map}
use Rattle.cell_refs.specs.declared.cell.Cell.{Cell}
use Rattle.cell_refs.specs.Areas.{Area, cells_of}
use Rattle.recalculation.specs.Evaluation.{CellGrid}
use Rattle.evaluation.specs.declared.looked.Looked.{Looked}
use Rattle.evaluation.specs.declared.looked.Looked.TheVariants as looked

-- a cell, or all cells of an area
abbrev pub cells_looked : Looked → List Cell
cells_looked (looked.Cell c) = c ∷ []
cells_looked (looked.Area a) = cells_of a

-- the cells of some of these, one behind the other
abbrev pub all_looked : List Looked → List Cell
all_looked list = flat_map cells_looked list

-- the cells of some areas in one column, one area behind the other
abbrev pub column_of_areas : List Area → CellGrid
column_of_areas areas = record { rows = length (flat_map cells_of areas); columns = 1; cells = flat_map cells_of areas }
