-- One operation on narrow numbers. No public clause cites this module.
use Rattle.std.specs.Prelude.{◌≡◌, true, false, Result, Ok, Err}
use Rattle.fractions.specs.Rational.{ℚ}
use Rattle.calculations.specs.Calculation.{Operation, result_of, stays_narrow}
use Rattle.frac128.specs.declared.fault.Wide.{Wide}

-- the operation's result, where it meets narrow numbers alone, and else Wide
abbrev pub IsStep : Operation → Result ℚ Wide → Type 0
IsStep o (Ok x) = (x ≡ result_of o) × (stays_narrow o ≡ true)
IsStep o (Err e) = stays_narrow o ≡ false
