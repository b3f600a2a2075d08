-- What a search that is over answers, and what that means of the problem that the model is.
use Rattle.std.specs.Prelude.{◌≡◌, List, Some, None}
use Rattle.fractions.specs.Rational.{ℚ}
use Rattle.optimality.specs.Problem.{Assignment}
use Rattle.optimality.specs.Optimal.{Optimal, Infeasible, Unbounded}
use Rattle.linear_models.specs.Worths.{form_at}
use Rattle.linear_models.specs.Model.{Model, IsPoint, maximised, problem_of}
use Rattle.opt_certificate.specs.Certificate.{IsWayOut}
use Rattle.searches.specs.Trees.{Found, Way}
use Rattle.searches.specs.Trails.{State, HasNoMarks}

-- what is answered: a best point and its value, that there is no point, or a point and a direction that leads on from it without end
pub data Answer : Type 0 where
  optimal : (point : List ℚ) (value : ℚ) → Answer
  infeasible : Answer
  unbounded : (point direction : List ℚ) → Answer

-- the answer of a search that is over: the point found is the best one, or none is there; after an unbounded program a point found is one to start from
pub data Says (m : Model) (s : State) : Answer → Type 0 where
  best_found : (f : Found) → s.way ≡ None → s.found ≡ Some f → Says m s (optimal f.point f.value)
  none_found : s.way ≡ None → s.found ≡ None → Says m s infeasible
  none_in_second : (w : Way) → s.way ≡ Some w → s.found ≡ None → ¬ (HasNoMarks m) → Says m s infeasible
  way_from_found : (w : Way) (f : Found) → s.way ≡ Some w → s.found ≡ Some f → Says m s (unbounded f.point w.direction)
  way_at_once : (w : Way) → HasNoMarks m → s.way ≡ Some w → s.found ≡ None → Says m s (unbounded w.point w.direction)

-- what is to be as great as can be, under an assignment
abbrev pub value_at : Model → Assignment → ℚ
value_at m a = form_at (maximised m.goal m.objective) a

-- optimal: the point is optimal, and has that value; infeasible: no assignment is permitted; unbounded: the direction leads out of the point without end, and the objective
-- improves without end
abbrev pub IsTrueOf : Model → Answer → Type 0
IsTrueOf m (optimal x v) = Optimal (problem_of m) x × (value_at m x ≡ v)
IsTrueOf m infeasible = Infeasible (problem_of m)
IsTrueOf m (unbounded x d) = IsPoint m x × (IsWayOut m d × Unbounded (problem_of m))
