-- The examples hold.
use Rattle.std.proofs.Common.{refl}
use Rattle.fractions.specs.Gcd.{gcd}
use Rattle.fractions.specs.Rational.{denominator, frac, if_lowest, is_lowest, le_ℚ, numerator}
use Rattle.search_paths.specs.Examples.{BoxesAreLed}

pub boxes_are_led : BoxesAreLed
unfolding gcd is_lowest numerator denominator if_lowest frac le_ℚ
boxes_are_led = record { box = refl; replaced = refl; one_part = refl }
