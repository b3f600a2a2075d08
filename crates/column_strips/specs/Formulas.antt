-- The areas to which formulas refer, by the formulas' cells.
use Rattle.std.specs.Prelude.{◌≡◌, ◌<◌, ℕ, Bool, false, List, map, Option, None, Some, slice_get}
use Rattle.std.specs.FinMap.{FinMap, from_entries}
use Rattle.std.specs.List.{list_any}
use Rattle.std.specs.declared.cmp.Ordering.{Ordering}
use Rattle.std.specs.declared.cmp.Ordering.TheVariants.{Less}
use Rattle.cell_refs.specs.Areas.{Area, within}
use Rattle.cell_refs.specs.declared.cell.Cell.{Cell}
use Rattle.cell_refs.specs.Cells.{cell_cmp}
use Rattle.column_strips.specs.declared.formulas.Formula.{Formula}

-- the areas to which each formula cell refers
abbrev pub References : Type 0
References = FinMap cell_cmp (List Area)

-- a formula's cell and areas
abbrev pub pair_of : Formula → Cell × List Area
pair_of f = (f.cell, f.areas.items)

-- what a list of formulas says
abbrev pub references_in : List Formula → References
references_in formulas = from_entries (map pair_of formulas)

-- each comes before those behind it
abbrev pub IsRising : {X : Type 0} → (X → X → Ordering) → List X → Type 0
IsRising {X} cmp xs = (i j : ℕ) (x y : X) → i < j → slice_get xs i ≡ Some x → slice_get xs j ≡ Some y → cmp x y ≡ Less

-- by sheet, row and column
abbrev pub AreSorted : List Formula → Type 0
AreSorted formulas = (i j : ℕ) (f g : Formula) → i < j → slice_get formulas i ≡ Some f → slice_get formulas j ≡ Some g
    → cell_cmp f.cell g.cell ≡ Less

-- whether one of some areas, where there are any, has a cell
abbrev pub refers_by : Option (List Area) → Cell → Bool
refers_by None d = false
refers_by (Some areas) d = list_any (λ area. within area d) areas
