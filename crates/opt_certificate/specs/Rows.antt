-- Rows of a model at a point or along a direction, and columns of a combination. No public clause cites this module.
use Rattle.std.specs.Prelude.{◌<◌, ℕ, Bool, true, false, List, length}
use Rattle.fractions.specs.Rational.{ℚ, ◌≤ℚ◌, zero_ℚ}
use Rattle.fractions.specs.Vectors.{at}
use Rattle.fractions.specs.Rows.{combined}
use Rattle.optimality.specs.Problem.{Assignment, Relation}
use Rattle.optimality.specs.Optimal.{Stand}
use Rattle.affine_forms.specs.Forms.{AffineForm}
use Rattle.linear_models.specs.Worths.{form_at}
use Rattle.linear_programs.specs.Program.{Program}
use Rattle.opt_certificate.specs.Sums.{form_sum, StaysNarrow}
use Rattle.opt_certificate.specs.Checks.{without_constant}

-- a form as it is, or its terms alone
abbrev pub based : Bool → AffineForm → AffineForm
based true f = f
based false f = without_constant f

-- the row holds at a point, or without its constant along a direction
abbrev pub RowStands : Bool → Assignment → AffineForm × Relation → Type 0
RowStands b a row = Stand row.1 (form_at (based b row.0) a) zero_ℚ

-- its sum there is made over narrow numbers
abbrev pub RowIsNarrow : Bool → Assignment → AffineForm × Relation → Type 0
RowIsNarrow b a row = StaysNarrow (form_sum (based b row.0) a)

-- what a combination's coefficient has to reach: the objective's, or 0
abbrev pub floor_of : Bool → Program → ℕ → ℚ
floor_of true p j = zero_ℚ
floor_of false p j = at p.objective j

-- each coefficient of the combination reaches it
abbrev pub ColumnsReach : Bool → Program → List ℚ → Type 0
ColumnsReach plain p ys = (j : ℕ) → j < length p.objective → floor_of plain p j ≤ℚ at (combined ys p.rows) j
