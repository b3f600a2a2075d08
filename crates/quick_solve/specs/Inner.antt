-- What inner contracts cite.
use Rattle.std.specs.Prelude.{◌≡◌, ℕ, ◌-◌, nat_lt, if◌then◌else◌, List, map, Some, None, Result, Ok, Err, ⊤}
use Rattle.fractions.specs.Rational.{ℚ}
use Rattle.calculations.specs.Calculation.{Calculation, sum, product, done, after, narrow}
use Rattle.affine_forms.specs.Assigned.{ReachTo}
use Rattle.affine_forms.specs.Forms.{Assignment, AffineForm}
use Rattle.linear_models.specs.Linear.{first_wide}
use Rattle.parameter_laws.specs.Putting.{put_in}
use Rattle.parameter_laws.specs.Statements.{form_at, sides_at, sides_put_in}
use Rattle.quick_solve.specs.declared.stop.QuickStop.{QuickStop}
use Rattle.quick_solve.specs.declared.stop.QuickStop.TheVariants as stops

-- a coefficient times a value, added to a number
abbrev pub product_added : ℚ → ℚ → ℚ → Calculation ℚ
product_added so_far coefficient value = after (product coefficient value) (λ p. after (sum so_far p) done)

-- the same for a term of a parameter; that of a decision is passed over
abbrev pub with_term : ℕ → Assignment → ℚ → ℕ × ℚ → Calculation ℚ
with_term n y so_far t = if nat_lt t.0 n then done so_far else product_added so_far t.1 (y (t.0 - n))

-- both sides have terms below a bound
abbrev pub BothReach : ℕ → AffineForm × AffineForm → Type 0
BothReach n s = ReachTo s.0.terms n × ReachTo s.1.terms n

-- the objective with the values put in
abbrev pub IsObjective : ℕ → Assignment → AffineForm → Result AffineForm QuickStop → Type 0
IsObjective n y f (Ok g) = (g ≡ form_at n y f) × (narrow (put_in n y f) ≡ Some g)
IsObjective n y f (Err (stops.WideSet k)) = (k ≡ 0) × (narrow (put_in n y f) ≡ None)
IsObjective n y f (Err (stops.WideRow k)) = ⊥
IsObjective n y f (Err stops.Memory) = ⊤

-- the sides of all rows with the values put in, or the number of the first in which these meet a number that isn't narrow
abbrev pub AreSides : ℕ → Assignment → List (AffineForm × AffineForm) → Result (List (AffineForm × AffineForm)) QuickStop → Type 0
AreSides n y sides (Ok left) = (left ≡ sides_at n y sides) × (first_wide 1 (map (sides_put_in n y) sides) ≡ None)
AreSides n y sides (Err (stops.WideSet k)) = first_wide 1 (map (sides_put_in n y) sides) ≡ Some k
AreSides n y sides (Err (stops.WideRow k)) = ⊥
AreSides n y sides (Err stops.Memory) = ⊤
