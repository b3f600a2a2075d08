-- One operation on narrow numbers.
use Rattle.std.specs.Prelude.{◌≡◌, true, false, Result, Ok, Err}
use Rattle.fractions.specs.Rational.{ℚ}
use Rattle.calculations.specs.Calculation.{Operation, result_of, stays_narrow}
use Rattle.sheet_model.specs.declared.stop.FuncStop.{FuncStop}
use Rattle.sheet_model.specs.declared.stop.FuncStop.TheVariants as stop

-- the operation's result, where it meets narrow numbers alone, and else Wide
abbrev pub IsStep : Operation → Result ℚ FuncStop → Type 0
IsStep o (Ok x) = (x ≡ result_of o) × (stays_narrow o ≡ true)
IsStep o (Err e) = (e ≡ stop.Wide) × (stays_narrow o ≡ false)
