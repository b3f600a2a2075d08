-- How many cells areas have together, sheet by sheet and column by column.
use Rattle.std.specs.Prelude.{ℕ, zero, suc, ◌+◌, ◌<◌, ◌==◌, ◌&&◌, nat_le, Bool, true, false, List}
use Rattle.std.specs.List.{All, list_any}
use Rattle.std.specs.List.Sorted.{IsNonDecreasingBy, IsPermutation}
use Rattle.cell_refs.specs.declared.cell.Cell.{Cell}
use Rattle.cell_refs.specs.declared.limits.TheConstants.{COLUMNS, ROWS}
use Rattle.cell_refs.specs.Areas.{Area, IsOnSheet, right, within}

abbrev pub cell_of : ℕ → ℕ → ℕ → Cell
cell_of sheet col row = record { sheet = record { 0 = sheet }; row = row; col = col }

-- the cell is in one of the areas
abbrev pub is_covered : List Area → Cell → Bool
is_covered areas c = list_any (λ a. within a c) areas

-- the area has cells of this column
abbrev pub has_column : Area → ℕ → ℕ → Bool
has_column a sheet col = (a.sheet.0 == sheet) && (nat_le a.left col && nat_le col (right a))

-- ---- counts
abbrev pub bit : Bool → ℕ
bit true = 1
bit false = 0

-- the sum of a function's values at the numbers below one
unfoldable pub sum_below : (ℕ → ℕ) → ℕ → ℕ
sum_below f zero = 0
sum_below f (suc n) = sum_below f n + f n

-- how many cells of a column are in one of the areas
abbrev pub in_column : List Area → ℕ → ℕ → ℕ
in_column areas sheet col = sum_below (λ row. bit (is_covered areas (cell_of sheet col row))) ROWS

abbrev pub on_sheet : List Area → ℕ → ℕ
on_sheet areas sheet = sum_below (λ col. in_column areas sheet col) COLUMNS

-- so many sheets can be numbered
abbrev pub numbered_sheets : ℕ
numbered_sheets = 256

abbrev pub on_all_sheets : List Area → ℕ
on_all_sheets areas = sum_below (λ sheet. on_sheet areas sheet) numbered_sheets

-- ---- areas in two orders
pub record IsPlaced (a : Area) : Type 0 where
  pub on_sheet : IsOnSheet a
  pub sheet : a.sheet.0 < numbered_sheets

abbrev pub IsRising : List Area → Type 0
IsRising areas = IsNonDecreasingBy (λ (a : Area). a.top) areas

-- the same areas, in the order of their tops
pub record AreByTop (areas by_top : List Area) : Type 0 where
  pub same : IsPermutation areas by_top
  pub rising : IsRising by_top
  pub placed : All IsPlaced by_top
