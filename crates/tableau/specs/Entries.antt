-- A row by its entries that aren't 0, each with its column.
use Rattle.std.specs.Prelude.{◌≡◌, ◌≢◌, ◌≤◌, ◌<◌, ℕ, suc, List, [], ◌∷◌, length, map, Result, Ok, Err, slice_index_or, ◌==◌, if◌then◌else◌}
use Rattle.std.specs.List.{range_with_len}
use Rattle.fractions.specs.Rational.{ℚ, zero_ℚ}
use Rattle.fractions.specs.Vectors.{at}

-- the column and the entry at a place of the list
abbrev pub pair_at : List (ℕ × ℚ) → ℕ → ℕ × ℚ
pair_at kept i = slice_index_or kept i (0, zero_ℚ)

-- the columns rise
abbrev pub IsRising : List (ℕ × ℚ) → Type 0
IsRising kept = (i j : ℕ) → i < j → j < length kept → (pair_at kept i).0 < (pair_at kept j).0

-- ---- what is kept of a row
-- the entry that a row has at the column of the pair, and it isn't 0
pub record IsEntry (row : List ℚ) (pair : ℕ × ℚ) : Type 0 where
  pub within : suc pair.0 < length row
  pub value : pair.1 ≡ at row (suc pair.0)
  pub other_than_zero : pair.1 ≢ zero_ℚ

-- exactly the entries of the row that aren't 0, in rising order of column
pub record AreEntries (row : List ℚ) (kept : List (ℕ × ℚ)) : Type 0 where
  pub rising : IsRising kept
  pub each : (i : ℕ) → i < length kept → IsEntry row (pair_at kept i)
  pub all : (j : ℕ) → suc j < length row → at row (suc j) ≢ zero_ℚ → (i : ℕ) × (i < length kept) × ((pair_at kept i).0 ≡ j)

-- ---- the row of what is kept
-- rising columns below that number, and no entry is 0
pub record IsSparse (columns : ℕ) (kept : List (ℕ × ℚ)) : Type 0 where
  pub rising : IsRising kept
  pub within : (i : ℕ) → i < length kept → (pair_at kept i).0 < columns
  pub other_than_zero : (i : ℕ) → i < length kept → (pair_at kept i).1 ≢ zero_ℚ

-- the entry that stands with the column, and 0 where none does
abbrev pub entry_in : List (ℕ × ℚ) → ℕ → ℚ
entry_in [] j = zero_ℚ
entry_in (pair ∷ pairs) j = if pair.0 == j then pair.1 else entry_in pairs j

-- the constant, and then the entry of each column
unfoldable pub spread : ℚ → ℕ → List (ℕ × ℚ) → List ℚ
spread constant columns kept = constant ∷ map (entry_in kept) (range_with_len 0 columns)

-- ---- places of the list
-- no pair before the place has the column or a later one, and each from there on has a later one
pub record IsGap (kept : List (ℕ × ℚ)) (column place : ℕ) : Type 0 where
  pub within : place ≤ length kept
  pub before : (i : ℕ) → i < place → (pair_at kept i).0 < column
  pub after : (i : ℕ) → place ≤ i → i < length kept → column < (pair_at kept i).0

-- where the column stands, or else where it would stand
abbrev pub IsPlaceOf : List (ℕ × ℚ) → ℕ → Result ℕ ℕ → Type 0
IsPlaceOf kept column (Ok place) = (place < length kept) × ((pair_at kept place).0 ≡ column)
IsPlaceOf kept column (Err place) = IsGap kept column place
