-- What follows for every problem.
use Rattle.std.specs.Prelude.{◌≡◌, ◌↔◌, ◌≢◌, Some, None}
use Rattle.fractions.specs.Rational.{ℚ}
use Rattle.optimality.specs.Problem.{Assignment, Problem, reach}
use Rattle.optimality.specs.Optimal.{Permitted, Optimal, Infeasible, Unbounded, objective_at}

-- a problem has at most one of the three answers
pub record AnswersExclude : Type 0 where
  pub optimal_feasible : (p : Problem) (a : Assignment) → Optimal p a → ¬ (Infeasible p)
  pub optimal_bounded : (p : Problem) (a : Assignment) (x : ℚ) → Optimal p a → objective_at p a ≡ Some x → ¬ (Unbounded p)
  pub unbounded_feasible : (p : Problem) → Unbounded p → ¬ (Infeasible p)

-- where a value is to be reached nothing is better, so every permitted assignment is optimal
abbrev pub ReachedIsOptimal : Type 0
ReachedIsOptimal = (p : Problem) (v : ℚ) (a : Assignment) → p.goal ≡ reach v → Permitted p a → Optimal p a

-- all optimal assignments have one objective
abbrev pub OneBestValue : Type 0
OneBestValue = (p : Problem) (a b : Assignment) (x y : ℚ) → Optimal p a → Optimal p b → objective_at p a ≡ Some x → objective_at p b ≡ Some y
    → ((v : ℚ) → p.goal ≢ reach v) → x ≡ y

-- two problems with one goal, the same permitted assignments and the same objective under these
pub record Agree (p q : Problem) : Type 0 where
  pub goal : p.goal ≡ q.goal
  pub permitted : (a : Assignment) → Permitted p a ↔ Permitted q a
  pub objective : (a : Assignment) → Permitted p a → objective_at p a ≡ objective_at q a

-- two problems that permit the same assignments and are optimal at the same ones, infeasible together and unbounded together
pub record SameAnswers (p q : Problem) : Type 0 where
  pub permitted : (a : Assignment) → Permitted p a ↔ Permitted q a
  pub optimal : (a : Assignment) → Optimal p a ↔ Optimal q a
  pub infeasible : Infeasible p ↔ Infeasible q
  pub unbounded : Unbounded p ↔ Unbounded q

-- the objective is that number, whatever is assigned
abbrev pub IsConstant : Problem → ℚ → Type 0
IsConstant p x = (a : Assignment) → objective_at p a ≡ Some x

-- problems that agree have the same answers, and so have one without objective and one whose objective is a constant
pub record SameAnswersHold : Type 0 where
  pub agreeing : (p q : Problem) → Agree p q → SameAnswers p q
  pub without_objective : (p q : Problem) (x : ℚ) → p.objective ≡ None → IsConstant q x → ((a : Assignment) → Permitted p a ↔ Permitted q a) → SameAnswers p q
