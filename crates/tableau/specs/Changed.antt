-- What a pivot has changed.
use Rattle.std.specs.Prelude.{◌≡◌, ◌≢◌, ◌<◌, ◌≤◌, ℕ, List, [], length, slice_index_or}
use Rattle.fractions.specs.Rational.{ℚ}
use Rattle.fractions.specs.Vectors.{at}
use Rattle.frac128.specs.Narrow.{IsNarrow}
use Rattle.dictionaries.specs.Dictionary.{substituted}
use Rattle.dictionaries.specs.Narrow.{IsNarrowSubstituted}

-- the row has become the one after the pivot, and each number before and in between is narrow
pub record IsChanged (row : List ℚ) (k : ℕ) (by into : List ℚ) : Type 0 where
  pub value : into ≡ substituted row k by
  pub numbers : (j : ℕ) → j < length row → IsNarrow (at row j)
  pub narrow : IsNarrowSubstituted row k by

-- each row before the end but the leaving one has, and the others stay
pub record AreChanged (rows : List (List ℚ)) (end leaving k : ℕ) (by : List ℚ) (into : List (List ℚ)) : Type 0 where
  pub size : length into ≡ length rows
  pub changed : (i : ℕ) → i < end → i ≢ leaving → IsChanged (slice_index_or rows i []) k by (slice_index_or into i [])
  pub stays : slice_index_or into leaving [] ≡ slice_index_or rows leaving []
  pub behind : (i : ℕ) → end ≤ i → slice_index_or into i [] ≡ slice_index_or rows i []
