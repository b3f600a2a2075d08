-- When each number that a pivot makes is narrow.
use Rattle.std.specs.Prelude.{◌≢◌, ◌<◌, ℕ, suc, List, [], length, slice_index_or, ◌==◌, if◌then◌else◌}
use Rattle.fractions.specs.Rational.{ℚ, ◌*ℚ◌, ◌/ℚ◌, neg_ℚ, one_ℚ}
use Rattle.fractions.specs.Vectors.{at, without}
use Rattle.frac128.specs.Narrow.{IsNarrow, IsNarrowSum}
use Rattle.dictionaries.specs.Dictionary.{Dictionary, row_of, solved_row}

-- the quotient is narrow
unfoldable pub IsNarrowQuotient : ℚ → ℚ → Type 0
IsNarrowQuotient a b = IsNarrow (a /ℚ b)

-- of a + b * c the product is narrow, and then the sum
unfoldable pub IsNarrowStep : ℚ → ℚ → ℚ → Type 0
IsNarrowStep a b c = IsNarrow (b *ℚ c) × IsNarrowSum a (b *ℚ c)

-- what is divided by the entry at k, at the place j
abbrev pub dividend : List ℚ → ℕ → ℕ → ℚ
dividend row k j = if j == k then one_ℚ else neg_ℚ (at row j)

-- each quotient of the solved row
abbrev pub IsNarrowSolvedRow : List ℚ → ℕ → Type 0
IsNarrowSolvedRow row k = (j : ℕ) → j < length row → IsNarrowQuotient (dividend row k j) (at row k)

-- the product and the sum at a place of another row
abbrev pub IsNarrowAt : List ℚ → ℕ → List ℚ → ℕ → Type 0
IsNarrowAt row k by j = IsNarrowStep (at (without row k) j) (at row k) (at by j)

-- and at each place of it
abbrev pub IsNarrowSubstituted : List ℚ → ℕ → List ℚ → Type 0
IsNarrowSubstituted row k by = (j : ℕ) → j < length row → IsNarrowAt row k by j

-- every number of the rows but the leaving one
abbrev pub AreNarrow : List (List ℚ) → ℕ → ℕ → List ℚ → Type 0
AreNarrow rows r k by = (i : ℕ) → i < length rows → i ≢ r → IsNarrowSubstituted (slice_index_or rows i []) k by

-- every number of the dictionary after the pivot
pub record IsNarrowPivot (d : Dictionary) (r c : ℕ) : Type 0 where
  pub row : IsNarrowSolvedRow (row_of d r) (suc c)
  pub rows : AreNarrow d.rows r (suc c) (solved_row (row_of d r) (suc c))
  pub objective : IsNarrowSubstituted d.objective (suc c) (solved_row (row_of d r) (suc c))
  pub auxiliary : IsNarrowSubstituted d.auxiliary (suc c) (solved_row (row_of d r) (suc c))
