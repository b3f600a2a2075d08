-- The linear model of a statement.
use Rattle.std.specs.Prelude.{ℕ, suc, List, [], ◌∷◌, ◌++◌, map, Option, Some, None, flat_map}
use Rattle.std.specs.List.{range_with_len}
use Rattle.fractions.specs.Rational.{zero_ℚ}
use Rattle.optimality.specs.Problem.{Relation, equal, Goal, greatest, least, reach}
use Rattle.affine_forms.specs.FromCalculations.{Calculation, done, exact, narrow, turned_into}
use Rattle.affine_forms.specs.Forms.{AffineForm, constant_form}
use Rattle.affine_forms.specs.Steps.{subtracted}
use Rattle.linear_models.specs.Model.{Model}
use Rattle.linear_models.specs.Statement.{Constraint, Statement}
use Rattle.linear_models.specs.Bounds.{bounded, is_marked, least_of, greatest_of}

-- the difference of the sides in the relation to 0; none where the row is a bound
abbrev pub row_or_none : Option ℕ → Constraint → Calculation (List (AffineForm × Relation))
row_or_none None r = turned_into (λ f. (f, r.relation) ∷ []) (subtracted r.left r.right)
row_or_none (Some j) r = done []

abbrev pub row_left : Constraint → Calculation (List (AffineForm × Relation))
row_left r = row_or_none (bounded r) r

-- a value to be reached is one more row
abbrev pub reaching : Goal → AffineForm → Calculation (List (AffineForm × Relation))
reaching greatest f = done []
reaching least f = done []
reaching (reach v) f = turned_into (λ d. (d, equal) ∷ []) (subtracted f (constant_form v))

abbrev pub form_or_zero : Option AffineForm → AffineForm
form_or_zero None = constant_form zero_ℚ
form_or_zero (Some f) = f

-- the objective of the model: 0 where a value is to be reached
abbrev pub objective_left : Goal → AffineForm → AffineForm
objective_left greatest f = f
objective_left least f = f
objective_left (reach v) f = constant_form zero_ℚ

-- what the rows leave, in their order; the row of a value to be reached is the last
abbrev pub rows_left : Statement → List (Calculation (List (AffineForm × Relation)))
rows_left s = map row_left s.rows ++ reaching s.goal (form_or_zero s.objective) ∷ []

abbrev pub linear : Statement → Model
linear s = record {
  goal = s.goal;
  objective = objective_left s.goal (form_or_zero s.objective);
  rows = flat_map exact (rows_left s);
  whole = map (is_marked s) (range_with_len 0 s.decisions);
  bounds = record { least = map (least_of s) (range_with_len 0 s.decisions); greatest = map (greatest_of s) (range_with_len 0 s.decisions) };
  groups = s.groups;
}

-- ---- numbers that aren't narrow
-- the number where a calculation isn't narrow, and else what follows
abbrev pub number_or : {A : Type 0} → ℕ → Option A → Option ℕ → Option ℕ
number_or k None next = Some k
number_or k (Some answer) next = next

-- the number of the first calculation that isn't narrow, where they are numbered from k on
abbrev pub first_wide : {A : Type 0} → ℕ → List (Calculation A) → Option ℕ
first_wide k [] = None
first_wide k (c ∷ cs) = number_or k (narrow c) (first_wide (suc k) cs)

-- the number, from 1 on, of the first row whose difference isn't narrow
abbrev pub wide_row : Statement → Option ℕ
wide_row s = first_wide 1 (rows_left s)
