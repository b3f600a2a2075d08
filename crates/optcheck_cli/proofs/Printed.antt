-- The line of a yes, of an optimal point.
use Rattle.std.proofs.Common.{◌≡◌, List, Option, Result, Ok, Err}
use Rattle.std.specs.Prelude.{String, IfOk, string_bytes}
use Rattle.std.specs.Global.{Global}
use Rattle.fractions.specs.Rational.{ℚ}
use Rattle.opt_certificate.specs.Certificate.{Claim, optimal}
use Rattle.optcheck_cli.specs.Lines.{yes_line}

-- the text is the line of this claim
abbrev pub SaysOf : {E : Type 0} → Claim → Option ℚ → Result (String Global) E → Type 0
SaysOf claim value r = IfOk r (λ t. string_bytes t ≡ yes_line claim value)

-- what holds of every point holds of this one
pub at_point : {E : Type 0} (r : Result (String Global) E) (value : Option ℚ) (a : List ℚ) → IfOk r (λ t. (b : List ℚ) → string_bytes t ≡ yes_line (optimal b) value) → SaysOf (optimal a) value r
at_point (Ok t) value a h = h a
at_point (Err e) value a h = tt
