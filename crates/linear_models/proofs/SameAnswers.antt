-- A statement and its linear model have the same answers.
use Rattle.std.proofs.Common.{◌≡◌, ◌↔◌, refl, sym, ap, ◌∙◌, Option, Some, None}
use Rattle.std.specs.Option.{option_map}
use Rattle.fractions.specs.Rational.{ℚ, zero_ℚ}
use Rattle.fractions.proofs.Laws.{add-zero}
use Rattle.optimality.specs.Problem.{Assignment, Goal, greatest, least, reach}
use Rattle.optimality.specs.Optimal.{Permitted, Reaches, worth_under}
use Rattle.optimality.specs.Laws.{Agree, SameAnswers}
use Rattle.optimality.proofs.SameAnswers.{same_answers_hold}
use Rattle.affine_forms.specs.Forms.{AffineForm}
use Rattle.linear_models.specs.Worths.{worth_of}
use Rattle.linear_models.specs.Model.{objective_of, problem_of}
use Rattle.linear_models.specs.Statement.{Statement, stated}
use Rattle.linear_models.specs.Linear.{linear, form_or_zero, objective_left}
use Rattle.linear_models.specs.Agreement.{IsStated, LinearAgrees}
use Rattle.linear_models.proofs.Permits.{points_are_permitted}
use Rattle.linear_models.proofs.Agreement.{linear_permits}

some_is : {x y : ℚ} → Some x ≡ Some y → x ≡ y
some_is e = cc

same_permitted : (s : Statement) → IsStated s → (a : Assignment) → Permitted (stated s) a ↔ Permitted (problem_of (linear s)) a
same_permitted s w a =
    let l = linear_permits s w a in let p = points_are_permitted (linear s) a in (λ h. p.1 (l.0 h), λ h. l.1 (p.0 h))

-- with an objective the two agree
objective_same : (g : Goal) (f : AffineForm) (a : Assignment) → Reaches g (Some (worth_of f)) a → worth_of f a ≡ objective_of g (objective_left g f) a
objective_same greatest f a h = refl
objective_same least f a h = refl
objective_same (reach v) f a h = h ∙ ap Some (sym (add-zero v))

agrees : (s : Statement) (f : AffineForm) → IsStated s → s.objective ≡ Some f → Agree (stated s) (problem_of (linear s))
agrees s f w e = record {
  goal = refl;
  permitted = same_permitted s w;
  objective = λ a h. along s.objective e a h.reached;
}
  where
    along : (o : Option AffineForm) → o ≡ Some f → (a : Assignment) → Reaches s.goal (option_map worth_of o) a → worth_under (option_map worth_of o) a ≡ objective_of s.goal (objective_left s.goal (form_or_zero o)) a
    along None q a h = cc
    along (Some g) q a h = objective_same s.goal g a h

-- ---- without one the model's objective is 0
zero_at : (g : Goal) (o : Option AffineForm) (a : Assignment) → o ≡ None → g ≡ greatest → objective_of g (objective_left g (form_or_zero o)) a ≡ Some zero_ℚ
zero_at greatest None a n e = ap Some (add-zero zero_ℚ)
zero_at least None a n e = cc
zero_at (reach v) None a n e = cc
zero_at g (Some f) a n e = cc

no_objective : (o : Option AffineForm) → o ≡ None → option_map worth_of o ≡ None
no_objective None e = refl
no_objective (Some f) e = cc

pub linear_agrees : LinearAgrees
linear_agrees s w = record { permitted = linear_permits s w; answers = cases s.objective refl; objective = λ f e. agrees s f w e }
  where
    cases : (o : Option AffineForm) → s.objective ≡ o → SameAnswers (stated s) (problem_of (linear s))
    cases None e = same_answers_hold.without_objective (stated s) (problem_of (linear s)) zero_ℚ (no_objective s.objective e) (λ a. zero_at s.goal s.objective a e (w.goal e)) (same_permitted s w)
    cases (Some f) e = same_answers_hold.agreeing _ _ (agrees s f w e)
