-- A statement whose sides are affine forms, and the problem that it is.
use Rattle.std.specs.Prelude.{◌≡◌, ◌<◌, ℕ, ◌==◌, Bool, not, if◌then◌else◌, List, [], length, map, slice_index, Option, filter}
use Rattle.std.specs.List.{range_with_len, list_any}
use Rattle.std.specs.Option.{option_map}
use Rattle.optimality.specs.Problem.{Relation, Row, Goal, Problem}
use Rattle.affine_forms.specs.Forms.{AffineForm}
use Rattle.linear_models.specs.Worths.{worth_of}

-- two sides in a relation; where the left side is a decision itself, its number
pub record Constraint : Type 0 where
  pub own : Option ℕ
  pub left : AffineForm
  pub relation : Relation
  pub right : AffineForm

-- the lists have numbers of decisions: those that are whole, 0 or 1, and those with an explicit lower bound; and groups of decisions, each of which holds the
-- numbers from 1 on, each once
pub record Statement : Type 0 where
  pub decisions : ℕ
  pub goal : Goal
  pub objective : Option AffineForm
  pub rows : List Constraint
  pub whole : List ℕ
  pub binary : List ℕ
  pub explicit : List ℕ
  pub not_negative : Bool
  pub groups : List (List ℕ)

abbrev pub is_in : ℕ → List ℕ → Bool
is_in j js = list_any (λ i. i == j) js

-- the decision is in one of the groups
abbrev pub is_grouped : ℕ → List (List ℕ) → Bool
is_grouped j groups = list_any (is_in j) groups

-- no decision stands in the list twice
abbrev pub IsOnce : List ℕ → Type 0
IsOnce js = (i k : ℕ) → i < length js → k < length js → slice_index js i ≡ slice_index js k → i ≡ k

-- ---- the problem that a statement is
abbrev pub row_of_sides : Constraint → Row
row_of_sides r = record { left = worth_of r.left; relation = r.relation; right = worth_of r.right }

-- where decisions without an explicit lower bound aren't negative, these
abbrev pub not_negative_in : Statement → List ℕ
not_negative_in s = if s.not_negative then filter (λ j. not (is_in j s.explicit)) (range_with_len 0 s.decisions) else []

abbrev pub stated : Statement → Problem
stated s = record {
  decisions = s.decisions;
  rows = map row_of_sides s.rows;
  whole = s.whole;
  binary = s.binary;
  not_negative = not_negative_in s;
  numbered = s.groups;
  different = [];
  objective = option_map worth_of s.objective;
  goal = s.goal;
}
