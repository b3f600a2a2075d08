-- Columns of a workbook, each with its strips.
use Rattle.std.specs.Prelude.{ℕ, ◌+◌, ◌-◌, ◌*◌, ◌≤◌, nat_lt, if◌then◌else◌, List, [], Option, None, Some, Vec, slice_get, vec_capacity, vec_len}
use Rattle.std.specs.Global.{Global}
use Rattle.cell_refs.specs.Areas.{Area, right}
use Rattle.cell_refs.specs.declared.limits.TheConstants.{COLUMNS}
use Rattle.column_strips.specs.declared.strip.Strip.{Strip}
use Rattle.column_strips.specs.Formulas.{IsRising}
use Rattle.column_strips.specs.Strips.{strip_cmp}

-- a column's place: sheet by sheet, column by column
abbrev pub place_in : ℕ → ℕ → ℕ
place_in sheet column = sheet * COLUMNS + column

abbrev pub Columns : Type 0
Columns = List (Vec Strip Global)

abbrev pub items_of : Option (Vec Strip Global) → List Strip
items_of None = []
items_of (Some column) = column.items

-- the strips at a place; none where there is no column yet
abbrev pub strips_at : Columns → ℕ → List Strip
strips_at columns i = items_of (slice_get columns i)

-- the strips of a column of a sheet
abbrev pub strips_in : Columns → ℕ → ℕ → List Strip
strips_in columns sheet column = if nat_lt column COLUMNS then strips_at columns (place_in sheet column) else []

-- for how many more strips a column has room
abbrev pub room_of : Option (Vec Strip Global) → ℕ
room_of None = 0
room_of (Some column) = vec_capacity column - vec_len column

abbrev pub room_at : Columns → ℕ → ℕ
room_at columns i = room_of (slice_get columns i)

-- each column has its strips in order
abbrev pub AllRising : Columns → Type 0
AllRising columns = (i : ℕ) → IsRising strip_cmp (strips_at columns i)

-- each column of an area has room for n more strips
abbrev pub HasRoom : ℕ → Area → Columns → Type 0
HasRoom n area columns =
    (i : ℕ) → place_in area.sheet.0 area.left ≤ i → i ≤ place_in area.sheet.0 (right area) → n ≤ room_at columns i
