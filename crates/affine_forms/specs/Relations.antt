-- Relations of a number to 0.
use Rattle.std.specs.Prelude.{◌≡◌, ◌≢◌, Bool, not}
use Rattle.fractions.specs.Rational.{ℚ, zero_ℚ, le_ℚ, eq_ℚ, ◌≤ℚ◌, ◌<ℚ◌}
use Rattle.affine_forms.specs.declared.rel.Rel.{Rel}
use Rattle.affine_forms.specs.declared.rel.Rel.TheVariants as rel

-- the number is in the relation to 0
abbrev pub Holds : Rel → ℚ → Type 0
Holds rel.Lt x = x <ℚ zero_ℚ
Holds rel.Le x = x ≤ℚ zero_ℚ
Holds rel.Eq x = x ≡ zero_ℚ
Holds rel.Ne x = x ≢ zero_ℚ
Holds rel.Ge x = zero_ℚ ≤ℚ x
Holds rel.Gt x = zero_ℚ <ℚ x

-- the same as a test
abbrev pub holds : Rel → ℚ → Bool
holds rel.Lt x = not (le_ℚ zero_ℚ x)
holds rel.Le x = le_ℚ x zero_ℚ
holds rel.Eq x = eq_ℚ x zero_ℚ
holds rel.Ne x = not (eq_ℚ x zero_ℚ)
holds rel.Ge x = le_ℚ zero_ℚ x
holds rel.Gt x = not (le_ℚ x zero_ℚ)

-- the relation that holds exactly where this one doesn't
abbrev pub reversed : Rel → Rel
reversed rel.Lt = rel.Ge
reversed rel.Le = rel.Gt
reversed rel.Eq = rel.Ne
reversed rel.Ne = rel.Eq
reversed rel.Ge = rel.Lt
reversed rel.Gt = rel.Le

-- the relation of the number with its sign turned, that is with the two sides of a comparison exchanged
abbrev pub mirrored : Rel → Rel
mirrored rel.Lt = rel.Gt
mirrored rel.Le = rel.Ge
mirrored rel.Eq = rel.Eq
mirrored rel.Ne = rel.Ne
mirrored rel.Ge = rel.Le
mirrored rel.Gt = rel.Lt
