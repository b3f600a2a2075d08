-- Examples that compute.
use Rattle.std.proofs.Common.{◌≡◌, pos, negsuc, refl, ◌^◌, [], ◌∷◌}
use Rattle.fractions.specs.Gcd.{gcd}
use Rattle.fractions.specs.Rational.{frac, zero_ℚ, one_ℚ, ◌+ℚ◌, ◌*ℚ◌, ◌-ℚ◌, ◌/ℚ◌, ◌≤ℚ◌, computed}
use Rattle.fractions.specs.Floor.{floor_ℚ}
use Rattle.fractions.specs.Power.{power_ℚ}
use Rattle.fractions.specs.Dictionary.{pivoted}

divisor : gcd (2 ^ 100) (6 ^ 80) ≡ 2 ^ 80
unfolding gcd
divisor = refl

sum : frac (pos 1) 2 +ℚ frac (pos 1) 3 ≡ frac (pos 10) 12
unfolding computed
sum = refl

all_four : frac (pos 1) 2 -ℚ frac (pos 2) 3 *ℚ frac (negsuc 0) 7 /ℚ frac (pos 3) 5 ≡ frac (pos 83) 126
unfolding computed
all_four = refl

third_at_most_half : frac (pos 1) 3 ≤ℚ frac (pos 1) 2
unfolding computed
third_at_most_half = record { at_most = tt }

floor_of_negative : floor_ℚ (frac (negsuc 6) 2) ≡ negsuc 3
unfolding computed floor_ℚ
floor_of_negative = refl

negative_power : power_ℚ (frac (pos 2) 3) (negsuc 2) ≡ frac (pos 27) 8
unfolding computed power_ℚ
negative_power = refl

-- x₃ = 5 - 2 x₀ - 3 x₁, x₄ = 11 - 4 x₀ - x₁ - 2 x₂: x₀ comes in for x₃
one_pivot : pivoted
    record { variable = 3; form = record { constant = frac (pos 5) 1; coefficients = frac (negsuc 1) 1 ∷ frac (negsuc 2) 1 ∷ [] } } 0
    (record { variable = 4; form = record { constant = frac (pos 11) 1; coefficients = frac (negsuc 3) 1 ∷ frac (negsuc 0) 1 ∷ frac (negsuc 1) 1 ∷ [] } } ∷ [])
    ≡ record { variable = 0; form = record { constant = frac (pos 5) 2; coefficients = zero_ℚ ∷ frac (negsuc 2) 2 ∷ zero_ℚ ∷ frac (negsuc 0) 2 ∷ [] } }
    ∷ record { variable = 4; form = record { constant = one_ℚ; coefficients = zero_ℚ ∷ frac (pos 5) 1 ∷ frac (negsuc 1) 1 ∷ frac (pos 2) 1 ∷ [] } } ∷ []
unfolding computed
one_pivot = refl
