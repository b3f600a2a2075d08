-- Texts as numbers.
use Rattle.std.specs.Prelude.{ℕ, if◌then◌else◌, List, Option, Some, None}
use Rattle.std.specs.Option.{option_and_then}
use Rattle.fractions.specs.Rational.{ℚ}
use Rattle.frac128.specs.Numeral.{Numeral, value, is_narrow_numeral}
use Rattle.frac128.specs.NumeralReading.{reading}

-- the value of a numeral that is narrow
abbrev pub narrow_value : Numeral → Option ℚ
narrow_value n = if is_narrow_numeral n then Some (value n) else None

-- the number that a text is; none where it is no numeral or one that isn't narrow
abbrev pub number_spelled : List ℕ → Option ℚ
number_spelled text = option_and_then narrow_value (reading text)
