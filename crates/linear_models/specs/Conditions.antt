-- What is stated beside the forms, and the statement that it makes with them.
use Rattle.std.specs.Prelude.{ℕ, Bool, List, [], ◌∷◌, Option, Some, None}
use Rattle.optimality.specs.Problem.{Relation, Goal, greatest}
use Rattle.affine_forms.specs.Forms.{AffineForm}
use Rattle.linear_models.specs.Statement.{Constraint, Statement}

-- of a row of two sides: their relation, and the number of the decision that the left side is, where it is one
pub record Condition : Type 0 where
  pub own : Option ℕ
  pub relation : Relation

-- of a statement: all but its forms; where there is no objective, there is no goal
pub record Conditions : Type 0 where
  pub decisions : ℕ
  pub goal : Option Goal
  pub rows : List Condition
  pub whole : List ℕ
  pub binary : List ℕ
  pub explicit : List ℕ
  pub not_negative : Bool
  pub groups : List (List ℕ)

abbrev pub constraint_of : Condition → AffineForm × AffineForm → Constraint
constraint_of c sides = record { own = c.own; left = sides.0; relation = c.relation; right = sides.1 }

-- each condition with the forms of its two sides
abbrev pub constraints : List Condition → List (AffineForm × AffineForm) → List Constraint
constraints [] sides = []
constraints (c ∷ cs) [] = []
constraints (c ∷ cs) (s ∷ sides) = constraint_of c s ∷ constraints cs sides

abbrev pub goal_or_greatest : Option Goal → Goal
goal_or_greatest None = greatest
goal_or_greatest (Some g) = g

-- the form counts where there is a goal
abbrev pub objective_where : Option Goal → AffineForm → Option AffineForm
objective_where None f = None
objective_where (Some g) f = Some f

abbrev pub statement_of : Conditions → AffineForm → List (AffineForm × AffineForm) → Statement
statement_of c f sides = record {
  decisions = c.decisions;
  goal = goal_or_greatest c.goal;
  objective = objective_where c.goal f;
  rows = constraints c.rows sides;
  whole = c.whole;
  binary = c.binary;
  explicit = c.explicit;
  not_negative = c.not_negative;
  groups = c.groups;
}
