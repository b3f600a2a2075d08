-- The constraints of a sheet's names.
use Rattle.std.specs.Prelude.{ℕ, ◌==◌, Bool, true, false, List, [], map, if◌then◌else◌, Option, Some, None}
use Rattle.std.specs.Option.{option_and_then}
use Rattle.std.specs.List.{range_with_len, list_any}
use Rattle.optimality.specs.declared.kinds.Relation.TheVariants.{AtMost, Equal, AtLeast}
use Rattle.cell_refs.specs.Areas.{Area, area_len, cell_at, cells_of}
use Rattle.cell_refs.specs.Cells.{is_same_cell}
use Rattle.cell_refs.specs.declared.cell.Cell.{Cell}
use Rattle.workbook.specs.State.{State}
use Rattle.cell_refs.specs.declared.place.Place.{Place}
use Rattle.cell_refs.specs.declared.place.Place.TheVariants as place
use Rattle.solver_names.specs.declared.name.Name.TheVariants as name
use Rattle.solver_names.specs.declared.said.Said.{Said}
use Rattle.solver_names.specs.declared.said.Said.TheVariants.{Absent, Says}
use Rattle.solver_names.specs.declared.constraints.Code.{Code}
use Rattle.solver_names.specs.declared.constraints.Code.TheVariants as code
use Rattle.solver_names.specs.declared.constraints.Constraint.{Constraint}
use Rattle.solver_names.specs.declared.constraints.Side.{Side}
use Rattle.solver_names.specs.declared.constraints.Side.TheVariants as side
use Rattle.solver_names.specs.Texts.{named, said_by, whole_in, reference_in, side_in}

-- ---- what the names of constraint k say
abbrev pub code_of : ℕ → Option Code
code_of n =
    if n == 1 then Some (code.Related AtMost)
    else if n == 2 then Some (code.Related Equal)
    else if n == 3 then Some (code.Related AtLeast)
    else if n == 4 then Some code.Whole
    else if n == 5 then Some code.Binary
    else if n == 6 then Some code.Different
    else None

abbrev pub code_in : List ℕ → Option Code
code_in text = option_and_then code_of (whole_in 1 6 text)

abbrev pub left_said : State → ℕ → ℕ → Said Area
left_said book sheet k = said_by (reference_in book sheet) (named book sheet (name.Left k))

abbrev pub code_said : State → ℕ → ℕ → Said Code
code_said book sheet k = said_by code_in (named book sheet (name.Code k))

-- a right side is read where the code is a relation
abbrev pub is_related : Said Code → Bool
is_related (Says (code.Related r)) = true
is_related _ = false

abbrev pub right_said : State → ℕ → ℕ → Said Code → Said Side
right_said book sheet k code = if is_related code then said_by (side_in book sheet) (named book sheet (name.Right k)) else Absent

abbrev pub constraint : State → ℕ → ℕ → Constraint
constraint book sheet k =
    record { k = k; left = left_said book sheet k; code = code_said book sheet k; right = right_said book sheet k (code_said book sheet k) }

-- so many constraints, numbered from 1 on
abbrev pub constraints : State → ℕ → ℕ → List Constraint
constraints book sheet count = map (constraint book sheet) (range_with_len 1 count)

-- ---- what they come to
abbrev pub is_among : List Cell → Cell → Bool
is_among cells c = list_any (is_same_cell c) cells

abbrev pub left_cells : Said Area → List Cell
left_cells (Says a) = cells_of a
left_cells _ = []

-- the right side of the row of a left cell, by its place: an area's own cell, or its only one
abbrev pub right_place : ℕ → Said Side → ℕ → Place
right_place k (Says (side.Area a)) i = place.Cell (cell_at a (if area_len a == 1 then 0 else i))
right_place k _ i = place.Side k
