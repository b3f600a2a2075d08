-- Parts that lie in a grid.
use Rattle.std.specs.Prelude.{ℕ, ◌<◌, ◌≤◌}
use Rattle.sheet_funcs.specs.declared.pick.Pick.{Pick}
use Rattle.sheet_funcs.specs.declared.pick.Pick.TheVariants.{Part, Fault}

-- the part's first row and column are no greater than its last ones, and these are in the grid
pub record IsPartOf (rows columns top left bottom right : ℕ) : Type 0 where
  pub rows_in_order : top ≤ bottom
  pub columns_in_order : left ≤ right
  pub last_row : bottom < rows
  pub last_column : right < columns

-- a part lies within a grid of so many rows and columns
abbrev pub IsWithin : ℕ → ℕ → Pick → Type 0
IsWithin rows columns (Part top left bottom right) = IsPartOf rows columns top left bottom right
IsWithin rows columns (Fault k) = Unit {0}
