-- A run of entries, whose columns rise, that is put into a row.
use Rattle.std.specs.Prelude.{◌≡◌, ◌≢◌, ◌<◌, ℕ, suc, List, length}
use Rattle.fractions.specs.Rational.{ℚ, zero_ℚ}
use Rattle.fractions.specs.Vectors.{at}
use Rattle.tableau.specs.Entries.{IsRising, entry_in, pair_at}

-- the first n entries of the run stand among entries, and at other columns what stood before
pub record HasRun (run : List (ℕ × ℚ)) (n : ℕ) (before after : List (ℕ × ℚ)) : Type 0 where
  pub put : (i : ℕ) → i < n → entry_in after (pair_at run i).0 ≡ (pair_at run i).1
  pub left : (j : ℕ) → ((i : ℕ) → i < n → (pair_at run i).0 ≢ j) → entry_in after j ≡ entry_in before j

-- entries of a row of so many numbers: columns rise, and no entry is 0
pub record IsRun (size : ℕ) (run : List (ℕ × ℚ)) : Type 0 where
  pub rising : IsRising run
  pub within : (i : ℕ) → i < length run → suc (pair_at run i).0 < size
  pub other_than_zero : (i : ℕ) → i < length run → (pair_at run i).1 ≢ zero_ℚ

-- they stand in the row, and elsewhere what stood before
pub record IsRunPut (run : List (ℕ × ℚ)) (before after : List ℚ) : Type 0 where
  pub size : length after ≡ length before
  pub rest : at after 0 ≡ at before 0
  pub put : (i : ℕ) → i < length run → at after (suc (pair_at run i).0) ≡ (pair_at run i).1
  pub left : (j : ℕ) → ((i : ℕ) → i < length run → (pair_at run i).0 ≢ j) → at after (suc j) ≡ at before (suc j)
