-- References between formulas, by their places.
use Rattle.std.specs.Prelude.{ℕ, ◌+◌, ◌*◌, Bool, false, not, ◌&&◌, List, length, Option, None, Some, slice_get, slice_index_or, sum_by}
use Rattle.std.specs.List.{list_any}
use Rattle.cell_refs.specs.Areas.{Area, within}
use Rattle.dep_table.specs.declared.find.Cursor.{Cursor}
use Rattle.column_strips.specs.declared.formulas.Formula.{Formula}

-- whether an area has the cell of a formula, where there is one
abbrev pub reaches : Area → Option Formula → Bool
reaches area None = false
reaches area (Some g) = within area g.cell

-- the same of an area, where there is one
abbrev pub reaches_some : Option Area → Option Formula → Bool
reaches_some None g = false
reaches_some (Some area) g = reaches area g

-- and of the area at a place among those of a formula
abbrev pub reaches_by : Option Formula → ℕ → Option Formula → Bool
reaches_by None a g = false
reaches_by (Some f) a g = reaches_some (slice_get f.areas.items a) g

-- whether one of the areas of a formula has the cell of another
abbrev pub refers_to : Option Formula → Option Formula → Bool
refers_to None g = false
refers_to (Some f) g = list_any (λ area. reaches area g) f.areas.items

-- whether the formula at place i, which isn't a leaf, refers to the one at place j
unfoldable pub edge : List Formula → List Bool → ℕ → ℕ → Bool
edge formulas leaves i j = not (slice_index_or leaves i false) && refers_to (slice_get formulas i) (slice_get formulas j)

-- the same by its area a
unfoldable pub slot : List Formula → List Bool → ℕ → ℕ → ℕ → Bool
slot formulas leaves i a j = not (slice_index_or leaves i false) && reaches_by (slice_get formulas i) a (slice_get formulas j)

-- the areas and places are gone through area by area, where there are n places
abbrev pub number : ℕ → Cursor → ℕ
number n c = c.area * n + c.place

-- more than there are for each of the formulas
unfoldable pub most_slots : List Formula → ℕ
most_slots formulas = sum_by (λ f. length f.areas.items) formulas * length formulas
