-- Values put in by example: a small problem with two decisions, whose limits 4 and 6 are parameters.
--
--     3 x + 2 y as great as can be, where x + y is at most the first parameter and x + 3 y at most the second
--
-- What is expected was worked out by hand.
use Rattle.std.specs.Prelude.{◌≡◌, ◌^◌, ℕ, true, false, pos, List, [], ◌∷◌, Some, None}
use Rattle.fractions.specs.Rational.{ℚ, neg_ℚ, ◌/ℚ◌}
use Rattle.fractions.specs.Whole.{whole_ℚ}
use Rattle.optimality.specs.Problem.{at_most, greatest}
use Rattle.calculations.specs.Calculation.{exact}
use Rattle.affine_forms.specs.Assigned.{assigned}
use Rattle.affine_forms.specs.Forms.{AffineForm}
use Rattle.linear_models.specs.Conditions.{Condition, Conditions}
use Rattle.linear_models.specs.Linear.{linear}
use Rattle.linear_models.specs.Model.{Model}
use Rattle.parameter_laws.specs.Putting.{put_in}
use Rattle.parameter_laws.specs.Statements.{statement_at, wide_set}

abbrev pub whole : ℕ → ℚ
whole n = whole_ℚ (pos n)

abbrev pub form : ℚ → List (ℕ × ℚ) → AffineForm
form constant terms = record { constant = constant; terms = terms }

-- ---- the problem
abbrev pub row : Condition
row = record { own = None; relation = at_most }

abbrev pub conditions : Conditions
conditions = record { decisions = 2; goal = Some greatest; rows = row ∷ row ∷ []; whole = []; binary = []; explicit = []; not_negative = true; groups = [] }

abbrev pub objective : AffineForm
objective = form (whole 0) ((0, whole 3) ∷ (1, whole 2) ∷ [])

abbrev pub sides : List (AffineForm × AffineForm)
sides =
    (form (whole 0) ((0, whole 1) ∷ (1, whole 1) ∷ []), form (whole 0) ((2, whole 1) ∷ [])) ∷
    (form (whole 0) ((0, whole 1) ∷ (1, whole 3) ∷ []), form (whole 0) ((3, whole 1) ∷ [])) ∷ []

-- its model where the first limit is 5
abbrev pub model : Model
model = record {
  goal = greatest;
  objective = objective;
  rows =
      (form (neg_ℚ (whole 5)) ((0, whole 1) ∷ (1, whole 1) ∷ []), at_most) ∷
      (form (neg_ℚ (whole 6)) ((0, whole 1) ∷ (1, whole 3) ∷ []), at_most) ∷ [];
  whole = false ∷ false ∷ [];
  bounds = record { least = Some (whole 0) ∷ Some (whole 0) ∷ []; greatest = None ∷ None ∷ [] };
  groups = [];
}

-- a form in which the parameters have coefficients other than 1: 3 + 2 x + 5 p - q, where p is a half and q is 2
abbrev pub mixed : AffineForm
mixed = form (whole 3) ((1, whole 2) ∷ (2, whole 5) ∷ (3, neg_ℚ (whole 1)) ∷ [])

-- 2 ^ 126 times a parameter, which isn't narrow where that is 2
abbrev pub high : AffineForm
high = form (whole 0) ((2, whole (2 ^ 126)) ∷ [])

abbrev pub low : AffineForm
low = form (whole 0) ((0, whole 1) ∷ [])

pub record ExamplesHold : Type 0 where
  pub model : linear (statement_at conditions (assigned (whole 5 ∷ whole 6 ∷ [])) objective sides) ≡ model
  pub mixed : exact (put_in 2 (assigned (whole 1 /ℚ whole 2 ∷ whole 2 ∷ [])) mixed) ≡ form (whole 7 /ℚ whole 2) ((1, whole 2) ∷ [])
  pub narrow : wide_set conditions (assigned (whole 1 ∷ whole 1 ∷ [])) high ((low, high) ∷ (high, low) ∷ []) ≡ None
  pub wide_objective : wide_set conditions (assigned (whole 2 ∷ whole 1 ∷ [])) high ((low, high) ∷ (high, low) ∷ []) ≡ Some 0
  pub wide_right : wide_set conditions (assigned (whole 2 ∷ whole 1 ∷ [])) low ((low, low) ∷ (low, high) ∷ []) ≡ Some 2
  pub wide_left : wide_set conditions (assigned (whole 2 ∷ whole 1 ∷ [])) low ((high, low) ∷ (low, high) ∷ []) ≡ Some 1
