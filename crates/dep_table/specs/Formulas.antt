-- Formulas, by their cells and the areas to which they refer.
use Rattle.std.specs.Prelude.{◌≡◌, ℕ, Bool, true, false, List, [], ◌∷◌, ◌++◌, Option, None, Some, slice_get, slice_index_or}
use Rattle.cell_refs.specs.Areas.{Area}
use Rattle.cell_refs.specs.declared.cell.Cell.{Cell}
use Rattle.column_strips.specs.declared.formulas.Formula.{Formula}
pub use Rattle.column_strips.specs.Formulas.{AreSorted, pair_of, references_in}

-- the areas of a cell behind the others, where there are any
abbrev pub with_areas : List (Cell × List Area) → Cell → Option (List Area) → List (Cell × List Area)
with_areas pairs cell None = pairs
with_areas pairs cell (Some areas) = pairs ++ (cell, areas) ∷ []

-- the formula of a cell has a flag
abbrev pub IsWanted : List Formula → List Bool → Cell → Type 0
IsWanted formulas wanted a = (i : ℕ) × (f : Formula) × (slice_get formulas i ≡ Some f) × (f.cell ≡ a) × (slice_index_or wanted i false ≡ true)
