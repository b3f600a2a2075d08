-- Lists of terms that calculations give. No public clause cites this module.
use Rattle.std.specs.Prelude.{◌≡◌, ◌<◌, ℕ, List, [], ◌∷◌, length, Some, ⊤}
use Rattle.fractions.specs.Rational.{ℚ}
use Rattle.calculations.specs.Calculation.{Calculation, sum, product, done, after, through, narrow}
use Rattle.affine_forms.specs.Forms.{Assignment}

-- where the calculation has an answer, that has more than two terms
abbrev pub NeedsRoomFor : Calculation (List (ℕ × ℚ)) → Type 0
NeedsRoomFor c = (terms : List (ℕ × ℚ)) → narrow c ≡ Some terms → 2 < length terms

-- the decision lies below those of the terms
abbrev pub IsBelow : ℕ → List (ℕ × ℚ) → Type 0
IsBelow j [] = ⊤
IsBelow j (u ∷ us) = j < u.0

-- the decisions of the first terms lie below those of the others
abbrev pub IsBehind : List (ℕ × ℚ) → List (ℕ × ℚ) → Type 0
IsBehind [] us = ⊤
IsBehind (t ∷ ts) us = IsBelow t.0 us × IsBehind ts us

-- the products of terms added to a number
abbrev pub summed : Assignment → ℚ → List (ℕ × ℚ) → Calculation ℚ
summed x base ts = through (λ so_far (t : ℕ × ℚ). after (product t.1 (x t.0)) (λ p. after (sum so_far p) done)) base ts
