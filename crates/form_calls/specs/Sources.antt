-- Grids from which functions pick.
use Rattle.std.specs.Prelude.{ℕ, Bool, true, false, List, [], map, Option, Some}
use Rattle.cell_refs.specs.declared.cell.Cell.{Cell}
use Rattle.sheet_funcs.specs.declared.pick.Pick.{Pick}
use Rattle.recalculation.specs.Looks.{picked_cells}
use Rattle.form_values.specs.declared.abs.Abs.{Abs}
use Rattle.form_table.specs.Wanted.{grid_of}
use Rattle.form_extraction.specs.Deciding.{cells_at}
use Rattle.form_extraction.specs.Sources as grids
use Rattle.form_calls.specs.declared.source.Source.{Source}
use Rattle.form_calls.specs.declared.source.Source.TheVariants.{Cells, Values}

abbrev pub rows_of : Source → ℕ
rows_of (Cells g) = g.now.rows
rows_of (Values a) = (grid_of a.now).rows

abbrev pub columns_of : Source → ℕ
columns_of (Cells g) = g.now.columns
columns_of (Values a) = (grid_of a.now).columns

-- the elements; those of a reference are the forms of its cells
abbrev pub items_of : (Cell → Option Abs) → Source → List (Option Abs)
items_of forms (Cells g) = map forms g.now.cells
items_of forms (Values a) = map Some (grid_of a.now).items

-- the elements that are looked at before it is known which are picked: of a reference none are
abbrev pub read_before : Source → List Abs
read_before (Cells g) = []
read_before (Values a) = (grid_of a.now).items

-- of a reference no element is seen before
abbrev pub is_seen : Source → Bool
is_seen (Cells g) = false
is_seen (Values a) = true

abbrev pub source_of : (Cell → Option Abs) → Source → grids.Source
source_of forms s = record { rows = rows_of s; columns = columns_of s; items = items_of forms s; is_seen = is_seen s }

-- the cells in some places, and those that are picked; of another argument there are none
abbrev pub cells_in : Source → List ℕ → List Cell
cells_in (Cells g) places = cells_at g.now places
cells_in (Values a) places = []

abbrev pub cells_picked : Source → Pick → List Cell
cells_picked (Cells g) p = picked_cells g.now p
cells_picked (Values a) p = []
