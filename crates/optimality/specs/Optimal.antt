-- What it means that an assignment is permitted, better than another and optimal, and that a problem is infeasible or
-- unbounded. Each definition ranges over all assignments of fractions of any size. (Chvatal, Linear Programming, chapter 1.)
use Rattle.std.specs.Prelude.{◌≡◌, ◌⊎◌, ℕ, Option, Some, None, All, length, slice_get, ⊤}
use Rattle.fractions.specs.Rational.{ℚ, denominator, zero_ℚ, one_ℚ, ◌≤ℚ◌, ◌<ℚ◌}
use Rattle.optimality.specs.Problem.{Assignment, Worth, Relation, at_most, equal, at_least, Row, Goal, greatest, least, reach, Problem}
use Rattle.optimality.specs.Groups.{HoldsEachOnce, AreDifferent}

-- two numbers are in the relation
abbrev pub Stand : Relation → ℚ → ℚ → Type 0
Stand at_most x y = x ≤ℚ y
Stand equal x y = x ≡ y
Stand at_least x y = y ≤ℚ x

-- both sides of the row are numbers, and they are in its relation
pub record Meets (a : Assignment) (row : Row) : Type 0 where
  pub left : ℚ
  pub right : ℚ
  pub left_is : row.left a ≡ Some left
  pub right_is : row.right a ≡ Some right
  pub stand : Stand row.relation left right

-- a decision's number passes the test
abbrev pub Has : (ℚ → Type 0) → Assignment → ℕ → Type 0
Has P a decision = (x : ℚ) × (slice_get a decision ≡ Some x) × P x

abbrev pub IsWhole : ℚ → Type 0
IsWhole x = denominator x ≡ 1

abbrev pub IsZeroOrOne : ℚ → Type 0
IsZeroOrOne x = (x ≡ zero_ℚ) ⊎ (x ≡ one_ℚ)

abbrev pub IsNotNegative : ℚ → Type 0
IsNotNegative x = zero_ℚ ≤ℚ x

-- where a value is to be reached, the objective is that value
abbrev pub Reaches : Goal → Option Worth → Assignment → Type 0
Reaches greatest objective a = ⊤
Reaches least objective a = ⊤
Reaches (reach v) None a = ⊤
Reaches (reach v) (Some f) a = f a ≡ Some v

-- the assignment has a number for each decision, and every row, mark, group and wanted value holds under it
pub record Permitted (p : Problem) (a : Assignment) : Type 0 where
  pub one_each : length a ≡ p.decisions
  pub rows : All (Meets a) p.rows
  pub whole : All (Has IsWhole a) p.whole
  pub binary : All (Has IsZeroOrOne a) p.binary
  pub not_negative : All (Has IsNotNegative a) p.not_negative
  pub numbered : All (HoldsEachOnce a) p.numbered
  pub different : All (AreDifferent a) p.different
  pub reached : Reaches p.goal p.objective a

-- x is a better number than y
abbrev pub IsBetter : Goal → ℚ → ℚ → Type 0
IsBetter greatest x y = y <ℚ x
IsBetter least x y = x <ℚ y
IsBetter (reach v) x y = ⊥

-- the objective's number under the assignment; none where there is no objective
abbrev pub worth_under : Option Worth → Assignment → Option ℚ
worth_under None a = None
worth_under (Some f) a = f a

abbrev pub objective_at : Problem → Assignment → Option ℚ
objective_at p a = worth_under p.objective a

-- the objective is a number under both, and a's is better than b's
pub record Better (p : Problem) (a b : Assignment) : Type 0 where
  pub mine : ℚ
  pub other : ℚ
  pub mine_is : objective_at p a ≡ Some mine
  pub other_is : objective_at p b ≡ Some other
  pub better : IsBetter p.goal mine other

-- permitted, and no permitted assignment is better
pub record Optimal (p : Problem) (a : Assignment) : Type 0 where
  pub permitted : Permitted p a
  pub best : (b : Assignment) → Permitted p b → ¬ (Better p b a)

-- no assignment is permitted
abbrev pub Infeasible : Problem → Type 0
Infeasible p = (a : Assignment) → ¬ (Permitted p a)

-- some permitted assignment whose objective is better than this number
pub record Beats (p : Problem) (x : ℚ) : Type 0 where
  pub by : Assignment
  pub permitted : Permitted p by
  pub worth : ℚ
  pub worth_is : objective_at p by ≡ Some worth
  pub better : IsBetter p.goal worth x

-- for every number some permitted assignment has a better objective
abbrev pub Unbounded : Problem → Type 0
Unbounded p = (x : ℚ) → Beats p x
