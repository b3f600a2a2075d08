-- A statement and its linear model are one problem.
use Rattle.std.specs.Prelude.{◌≡◌, ◌↔◌, ◌<◌, ◌≤◌, ℕ, List, length, All, Some, None}
use Rattle.optimality.specs.Problem.{Assignment, greatest}
use Rattle.optimality.specs.Optimal.{Permitted}
use Rattle.optimality.specs.Laws.{Agree, SameAnswers}
use Rattle.affine_forms.specs.Forms.{AffineForm, decision_form}
use Rattle.affine_forms.specs.Assigned.{ReachTo}
use Rattle.linear_models.specs.Model.{Model, IsPoint, problem_of}
use Rattle.linear_models.specs.Statement.{Constraint, Statement, stated, IsOnce}
use Rattle.linear_models.specs.Linear.{linear}
use Rattle.linear_models.specs.Conditions.{Conditions, statement_of}

-- where the left side is a decision, it is one of the first n, and the left form is that decision
abbrev pub IsOwn : ℕ → Constraint → Type 0
IsOwn n r = (j : ℕ) → r.own ≡ Some j → (j < n) × (r.left ≡ decision_form j)

-- the sides are forms in the first n decisions
pub record SidesReach (n : ℕ) (r : Constraint) : Type 0 where
  pub left : ReachTo r.left.terms n
  pub right : ReachTo r.right.terms n

-- the group is of the first n decisions, none of them twice
pub record IsGroupIn (n : ℕ) (group : List ℕ) : Type 0 where
  pub below : All (λ j. j < n) group
  pub once : IsOnce group

-- numbers are those of decisions, at most 512, there are at most 256 rows, and without an objective the goal is the greatest
pub record IsStated (s : Statement) : Type 0 where
  pub few : s.decisions ≤ 512
  pub few_rows : length s.rows ≤ 256
  pub own : All (IsOwn s.decisions) s.rows
  pub sides : All (SidesReach s.decisions) s.rows
  pub objective : (f : AffineForm) → s.objective ≡ Some f → ReachTo f.terms s.decisions
  pub whole : All (λ j. j < s.decisions) s.whole
  pub binary : All (λ j. j < s.decisions) s.binary
  pub groups : All (IsGroupIn s.decisions) s.groups
  pub goal : s.objective ≡ None → s.goal ≡ greatest

-- there are two sides for each row, and with them it is a statement
abbrev pub Fits : Conditions → AffineForm → List (AffineForm × AffineForm) → Type 0
Fits c f sides = (length sides ≡ length c.rows) × IsStated (statement_of c f sides)

-- the model is the problem that is stated: the same assignments are permitted, with the same objective where there is one, and the answers are the same
pub record AgreesWith (s : Statement) (m : Model) : Type 0 where
  pub permitted : (a : Assignment) → Permitted (stated s) a ↔ IsPoint m a
  pub answers : SameAnswers (stated s) (problem_of m)
  pub objective : (f : AffineForm) → s.objective ≡ Some f → Agree (stated s) (problem_of m)

-- so is the linear model of each statement
abbrev pub LinearAgrees : Type 0
LinearAgrees = (s : Statement) → IsStated s → AgreesWith s (linear s)
