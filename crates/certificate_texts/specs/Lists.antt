-- Reading the words of a line one by one. No public clause cites this module.
use Rattle.std.specs.Prelude.{◌≡◌, ◌≢◌, ◌<◌, ◌≤◌, ◌+◌, suc, List, [], ◌∷◌, ◌++◌, length, map, replicate, Option, Some, None, ℕ}
use Rattle.std.specs.List.{AllByRecursion}
use Rattle.fractions.specs.Rational.{ℚ, zero_ℚ}
use Rattle.frac128.specs.Narrow.{IsNarrow}
use Rattle.frac128.specs.Printed.{printed}
use Rattle.certificate_lines.specs.Cutting.{Starts}
use Rattle.certificate_lines.specs.Line.{AreMultipliers, spaced, pair_text, pair_words}

-- one number more stands in front of the rest, and the rest begins with a space or is empty
pub record OneNumber (old : List ℚ) (text : List ℕ) (new : List ℚ) (rest : List ℕ) : Type 0 where
  pub number : ℚ
  pub narrow : IsNarrow number
  pub added : new ≡ old ++ (number ∷ [])
  pub joined : text ≡ 32 ∷ (printed number ++ rest)
  pub starts : Starts 32 rest

-- a number more, or no number's word stands in front
abbrev pub NextNumber : List ℚ → List ℕ → List ℚ → Option (List ℕ) → Type 0
NextNumber old text new None = (x : ℚ) (xs : List ℚ) → IsNarrow x → AllByRecursion IsNarrow xs → text ≢ spaced (printed x ∷ map printed xs)
NextNumber old text new (Some rest) = OneNumber old text new rest

-- a row from 1 to the greatest that is meant, and a number that fits and isn't 0
pub record IsPair (most : ℕ) (k : ℕ) (y : ℚ) : Type 0 where
  pub counted : 0 < k
  pub row : k ≤ most
  pub narrow : IsNarrow y
  pub other : y ≢ zero_ℚ

-- the row and the number that the word is, or it is none
abbrev pub PairOf : ℕ → Option (ℕ × ℚ) → List ℕ → Type 0
PairOf most None word = (k : ℕ) (y : ℚ) → IsPair most k y → word ≢ pair_text k y
PairOf most (Some p) word = IsPair most p.0 p.1 × (word ≡ pair_text p.0 p.1)

-- multipliers of at most so many rows
pub record AreRows (most : ℕ) (ys : List ℚ) : Type 0 where
  pub are : AreMultipliers ys
  pub few : length ys ≤ most

-- zeros and one number more that isn't 0: its row and the number stand in front of the rest, which begins with a space or is empty
pub record OnePair (most : ℕ) (old : List ℚ) (text : List ℕ) (new : List ℚ) (rest : List ℕ) : Type 0 where
  pub zeros : ℕ
  pub number : ℚ
  pub pair : IsPair most (suc (length old) + zeros) number
  pub added : new ≡ old ++ (replicate zeros zero_ℚ ++ (number ∷ []))
  pub joined : text ≡ 32 ∷ (pair_text (suc (length old) + zeros) number ++ rest)
  pub starts : Starts 32 rest

-- a pair more, or the text is that of no numbers behind the old ones
abbrev pub NextPair : ℕ → List ℚ → List ℕ → List ℚ → Option (List ℕ) → Type 0
NextPair most old text new None = (more : List ℚ) → AreRows most (old ++ more) → text ≢ spaced (pair_words (suc (length old)) more)
NextPair most old text new (Some rest) = OnePair most old text new rest
