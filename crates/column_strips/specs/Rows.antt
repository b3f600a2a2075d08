-- Rows of a column that are sought, in a list that has at each place the first of them from there on.
use Rattle.std.specs.Prelude.{◌≡◌, ◌≤◌, ℕ, List, Some, slice_get}
use Rattle.cell_refs.specs.declared.cell.Cell.{Cell}

-- a row is one of them
abbrev pub IsSought : List ℕ → ℕ → Type 0
IsSought rows r = slice_get rows r ≡ Some r

-- each place has the first of them from it on; behind the list there are none
pub record AreAhead (rows : List ℕ) : Type 0 where
  pub sought : (k v : ℕ) → slice_get rows k ≡ Some v → (k ≤ v) × IsSought rows v
  pub first : (k v r : ℕ) → slice_get rows k ≡ Some v → k ≤ r → IsSought rows r → v ≤ r

-- the cell of a row, in the column of a cell
abbrev pub in_column : Cell → ℕ → Cell
in_column to r = record { sheet = to.sheet; row = r; col = to.col }
