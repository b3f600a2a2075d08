-- What an operator or a function answers.
use Rattle.std.specs.Prelude.{◌≡◌, Result, Ok, Err, Some, None}
use Rattle.calculations.specs.Calculation.{Calculation, narrow}
use Rattle.sheet_model.specs.declared.stop.FuncStop.{FuncStop}
use Rattle.sheet_model.specs.declared.stop.FuncStop.TheVariants as stop

-- the calculation's answer on narrow numbers, and Wide exactly where it meets a number that isn't narrow
abbrev pub Answers : {A : Type 0} → Calculation A → Result A FuncStop → Type 0
Answers c (Ok answer) = narrow c ≡ Some answer
Answers c (Err stop.Wide) = narrow c ≡ None
Answers c (Err stop.Memory) = Unit {0}
