-- Linear models: rows of forms in a relation to 0, whole marks, bounds, groups and an objective. (Chvatal, Linear Programming, chapters 1 and 8.)
use Rattle.std.specs.Prelude.{◌≡◌, ◌<◌, ◌≤◌, ℕ, suc, Bool, true, false, List, [], ◌∷◌, ◌++◌, map, length, All, Option, Some, None, slice_index, slice_index_or}
use Rattle.fractions.specs.Rational.{ℚ, zero_ℚ}
use Rattle.fractions.specs.Vectors.{at}
use Rattle.optimality.specs.Problem.{Assignment, Worth, Relation, at_most, at_least, Row, Goal, greatest, least, reach, Problem}
use Rattle.optimality.specs.Groups.{AreDifferent}
use Rattle.optimality.specs.Optimal.{Stand, IsWhole}
use Rattle.affine_forms.specs.Forms.{AffineForm, IsForm, constant_form, negated}
use Rattle.affine_forms.specs.Assigned.{ReachTo}
use Rattle.linear_models.specs.Worths.{form_at, worth_of}
use Rattle.linear_models.specs.Box.{Box, InBox, bound_at}
use Rattle.linear_models.specs.Statement.{IsOnce}

-- one mark for each decision; each row's form is in its relation to 0; the decisions of each group hold different numbers
pub record Model : Type 0 where
  pub goal : Goal
  pub objective : AffineForm
  pub rows : List (AffineForm × Relation)
  pub whole : List Bool
  pub bounds : Box
  pub groups : List (List ℕ)

-- the decision is to be whole
abbrev pub is_whole_at : List Bool → ℕ → Bool
is_whole_at marks j = slice_index_or marks j false

abbrev pub RowHolds : Assignment → AffineForm × Relation → Type 0
RowHolds a row = Stand row.1 (form_at row.0 a) zero_ℚ

abbrev pub AreWhole : List Bool → Assignment → Type 0
AreWhole marks a = (j : ℕ) → is_whole_at marks j ≡ true → IsWhole (at a j)

-- a number for each decision that meets all rows, marks and bounds; no two decisions of a group hold the same one
pub record IsPoint (m : Model) (a : Assignment) : Type 0 where
  pub one_each : length a ≡ length m.whole
  pub rows : All (RowHolds a) m.rows
  pub whole : AreWhole m.whole a
  pub bounds : InBox m.bounds a
  pub different : All (AreDifferent a) m.groups

-- ---- the problem that a model is
abbrev pub row_of_form : AffineForm × Relation → Row
row_of_form row = record { left = worth_of row.0; relation = row.1; right = worth_of (constant_form zero_ℚ) }

-- a decision in a relation to a number
abbrev pub bound_row : Relation → ℕ → Option ℚ → List Row
bound_row r j None = []
bound_row r j (Some b) = record { left = λ a. Some (at a j); relation = r; right = λ a. Some b } ∷ []

-- the bounds of the decisions from the number j on
abbrev pub bound_rows : Relation → ℕ → List (Option ℚ) → List Row
bound_rows r j [] = []
bound_rows r j (b ∷ bs) = bound_row r j b ++ bound_rows r (suc j) bs

-- the numbers, from j on, of the decisions that are marked
abbrev pub marked : ℕ → List Bool → List ℕ
marked j [] = []
marked j (true ∷ marks) = j ∷ marked (suc j) marks
marked j (false ∷ marks) = marked (suc j) marks

-- where a value is to be reached, the rows say so, and the objective is that value
abbrev pub objective_of : Goal → AffineForm → Worth
objective_of greatest f = worth_of f
objective_of least f = worth_of f
objective_of (reach v) f = worth_of (constant_form v)

abbrev pub problem_of : Model → Problem
problem_of m = record {
  decisions = length m.whole;
  rows = map row_of_form m.rows ++ (bound_rows at_least 0 m.bounds.least ++ bound_rows at_most 0 m.bounds.greatest);
  whole = marked 0 m.whole;
  binary = [];
  not_negative = [];
  numbered = [];
  different = m.groups;
  objective = Some (objective_of m.goal m.objective);
  goal = m.goal;
}

-- the form that is to be as great as can be: 0 where a value is to be reached
abbrev pub maximised : Goal → AffineForm → AffineForm
maximised greatest f = f
maximised least f = negated f
maximised (reach v) f = constant_form zero_ℚ

-- ---- models as they are built
-- the terms are in order, and of the first n decisions alone
pub record IsFormOf (n : ℕ) (f : AffineForm) : Type 0 where
  pub form : IsForm f
  pub reach : ReachTo f.terms n

-- each bound of a decision that is to be whole is whole
abbrev pub AreWholeBounds : List Bool → List (Option ℚ) → Type 0
AreWholeBounds marks bounds = (j : ℕ) (b : ℚ) → is_whole_at marks j ≡ true → bound_at bounds j ≡ Some b → IsWhole b

-- the decisions of a group are other ones, to be whole, and have two bounds
pub record IsGroupOf (m : Model) (group : List ℕ) : Type 0 where
  pub once : IsOnce group
  pub marked : (i : ℕ) → i < length group → is_whole_at m.whole (slice_index group i) ≡ true
  pub least : (i : ℕ) → i < length group → (b : ℚ) × (bound_at m.bounds.least (slice_index group i) ≡ Some b)
  pub greatest : (i : ℕ) → i < length group → (b : ℚ) × (bound_at m.bounds.greatest (slice_index group i) ≡ Some b)

-- at most 512 decisions and 257 rows, forms in these decisions, for each of them a mark and a bound on either side, and groups of them
pub record IsValid (m : Model) : Type 0 where
  pub few : length m.whole ≤ 512
  pub few_rows : length m.rows ≤ 257
  pub objective : IsFormOf (length m.whole) m.objective
  pub rows : All (λ (row : AffineForm × Relation). IsFormOf (length m.whole) row.0) m.rows
  pub least : length m.bounds.least ≡ length m.whole
  pub greatest : length m.bounds.greatest ≡ length m.whole
  pub whole_least : AreWholeBounds m.whole m.bounds.least
  pub whole_greatest : AreWholeBounds m.whole m.bounds.greatest
  pub groups : All (IsGroupOf m) m.groups
