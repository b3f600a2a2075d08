-- Sums of products in a stated order: from a start, one product after the other is made and added.
use Rattle.std.specs.Prelude.{◌≡◌, ℕ, List, [], ◌∷◌, Some}
use Rattle.fractions.specs.Rational.{ℚ, zero_ℚ}
use Rattle.fractions.specs.Vectors.{at}
use Rattle.fractions.specs.Rows.{Row}
use Rattle.calculations.specs.Calculation.{Calculation, done, after, sum, product, narrow, followed_by}
use Rattle.affine_forms.specs.Forms.{AffineForm}
use Rattle.affine_forms.specs.Assigned.{assigned}
use Rattle.affine_forms.specs.Steps.{evaluated_at}
use Rattle.linear_programs.specs.Program.{Program}

-- the products of the pairs added to the start
abbrev pub added_up : ℚ → List (ℚ × ℚ) → Calculation ℚ
added_up start [] = done start
added_up start (p ∷ ps) = after (product p.0 p.1) (λ x. after (sum start x) (λ s. added_up s ps))

-- each multiplier with its row's number; what is missing at the end of the multipliers counts as 0
abbrev pub paired : (Row → ℚ) → List ℚ → List Row → List (ℚ × ℚ)
paired f [] rows = []
paired f (y ∷ ys) [] = []
paired f (y ∷ ys) (r ∷ rows) = (y, f r) ∷ paired f ys rows

-- the combination's coefficient of a column
abbrev pub column_sum : ℕ → List ℚ → List Row → Calculation ℚ
column_sum j ys rows = added_up zero_ℚ (paired (λ r. at r.coefficients j) ys rows)

-- its bound
abbrev pub bound_sum : List ℚ → List Row → Calculation ℚ
bound_sum ys rows = added_up zero_ℚ (paired (λ r. r.bound) ys rows)

-- its bound and the objective's constant
abbrev pub whole_bound : List ℚ → Program → Calculation ℚ
whole_bound ys p = followed_by (bound_sum ys p.rows) (λ b. after (sum b p.constant) done)

-- a form's number at a point: from its constant on, each product is added when it is made
abbrev pub form_sum : AffineForm → List ℚ → Calculation ℚ
form_sum f a = evaluated_at (assigned a) f

-- all of its numbers are narrow
abbrev pub StaysNarrow : Calculation ℚ → Type 0
StaysNarrow c = (x : ℚ) × (narrow c ≡ Some x)
