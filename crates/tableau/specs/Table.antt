-- The numbers of a dictionary, and a pivot on them.
use Rattle.std.specs.Prelude.{◌≡◌, ℕ, List, length, map, set, All}
use Rattle.fractions.specs.Rational.{ℚ}
use Rattle.dictionaries.specs.Dictionary.{substituted}
use Rattle.dictionaries.specs.Narrow.{AreNarrow, IsNarrowSubstituted}

-- the rows, the objective and the auxiliary objective
pub record Numbers : Type 0 where
  pub rows : List (List ℚ)
  pub objective : List ℚ
  pub auxiliary : List ℚ

-- so many rows of so many numbers
pub record IsTable (t : Numbers) (height width : ℕ) : Type 0 where
  pub rows : length t.rows ≡ height
  pub widths : All (λ row. length row ≡ width) t.rows
  pub objective : length t.objective ≡ width
  pub auxiliary : length t.auxiliary ≡ width

-- each number that changes is narrow
pub record IsNarrowTable (t : Numbers) (leaving k : ℕ) (by : List ℚ) : Type 0 where
  pub rows : AreNarrow t.rows leaving k by
  pub objective : IsNarrowSubstituted t.objective k by
  pub auxiliary : IsNarrowSubstituted t.auxiliary k by

-- the numbers after the pivot
abbrev pub table_after : Numbers → ℕ → ℕ → List ℚ → Numbers
table_after t leaving k by = record {
  rows = set (map (λ row. substituted row k by) t.rows) leaving by;
  objective = substituted t.objective k by;
  auxiliary = substituted t.auxiliary k by;
}
