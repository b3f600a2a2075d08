-- What a search that is over answers.
use Rattle.std.proofs.Common.{◌≡◌, sym, ap, subst, List, true}
use Rattle.std.specs.Prelude.{Option, Some, None}
use Rattle.std.specs.Option.{option_map}
use Rattle.fractions.specs.Rational.{ℚ}
use Rattle.node_pick.specs.Rules.{free}
use Rattle.linear_models.specs.Model.{Model, IsValid}
use Rattle.searches.specs.Trails.{State, HasNoMarks, IsOver}
use Rattle.searches.specs.Trails as trails
use Rattle.searches.specs.Answers.{Answer, Says, optimal, infeasible, unbounded, best_found, none_found, none_in_second, way_from_found, way_at_once}
use Rattle.searches.proofs.Trails.{answers_are_true}
use Rattle.branch_bound.specs.declared.frontier.Found.{Found}
use Rattle.branch_bound.specs.declared.frontier.Way.{Way}
use Rattle.branch_bound.specs.declared.frontier.Frontier.{Frontier}
use Rattle.branch_bound.specs.declared.work.Work.{Work}
use Rattle.branch_bound.specs.declared.progress.Progress.{Progress}
use Rattle.branch_bound.specs.declared.progress.Progress.TheVariants as progress
use Rattle.branch_bound.specs.declared.progress.SearchStop.{SearchStop}
use Rattle.branch_bound.specs.declared.progress.SearchStop.TheVariants as stop
use Rattle.branch_bound.specs.States.{state_of, found_of, way_of, work_of}
use Rattle.branch_bound.specs.Searches.{Held, HasEnded, HasTrail}
use Rattle.branch_bound.specs.Ends.{IsAnswered, IsAnswerOf}
use Rattle.branch_bound.specs.Told.{IsTold, IsStopOf, IsWideStop}

pub says_unbounded : (m : Model) (f : Frontier) (found : Found) (way : Way) (x d : List ℚ) → f.found ≡ Some found → f.way ≡ Some way → x ≡ found.point.items → d ≡ way.direction.items
    → Says m (state_of f None) (unbounded x d)
says_unbounded m f found way x d e h p q =
    subst (λ (u : List ℚ). Says m (state_of f None) (unbounded u d)) (sym p)
    (subst (λ (u : List ℚ). Says m (state_of f None) (unbounded found.point.items u)) (sym q) (way_from_found (way_of way) (found_of found) (ap (option_map way_of) h) (ap (option_map found_of) e)))

pub says_at_once : (m : Model) (f : Frontier) (way : Way) (x d : List ℚ) → f.found ≡ None → f.way ≡ Some way → HasNoMarks m → x ≡ way.point.items → d ≡ way.direction.items
    → Says m (state_of f None) (unbounded x d)
says_at_once m f way x d e h n p q =
    subst (λ (u : List ℚ). Says m (state_of f None) (unbounded u d)) (sym p)
    (subst (λ (u : List ℚ). Says m (state_of f None) (unbounded way.point.items u)) (sym q) (way_at_once (way_of way) n (ap (option_map way_of) h) (ap (option_map found_of) e)))

pub says_optimal : (m : Model) (f : Frontier) (found : Found) (x : List ℚ) → f.found ≡ Some found → f.way ≡ None → x ≡ found.point.items → Says m (state_of f None) (optimal x found.value)
says_optimal m f found x e h p =
    subst (λ (u : List ℚ). Says m (state_of f None) (optimal u found.value)) (sym p) (best_found (found_of found) (ap (option_map way_of) h) (ap (option_map found_of) e))

pub says_infeasible : (m : Model) (f : Frontier) → f.found ≡ None → f.way ≡ None → Says m (state_of f None) infeasible
says_infeasible m f e h = none_found (ap (option_map way_of) h) (ap (option_map found_of) e)

pub says_none : (m : Model) (f : Frontier) (way : Way) → f.found ≡ None → f.way ≡ Some way → ¬ (HasNoMarks m) → Says m (state_of f None) infeasible
says_none m f way e h n = none_in_second (way_of way) (ap (option_map way_of) h) (ap (option_map found_of) e) n

-- marks are there or not
pub no_marks : (m : Model) → ¬ (¬ (HasNoMarks m)) → HasNoMarks m
no_marks m n = λ j e. n (λ h. h j e)

-- ---- searches at rest
pub at_rest : (f : Frontier) (w : Option Work) → option_map (work_of f.paths.paths) w ≡ None → state_of f None ≡ state_of f w
at_rest f w e = ap (λ (u : Option trails.Work). record (state_of f None) { work = u }) (sym e)

answer_is : (s : Held) (a : Answer) → HasEnded s → IsValid s.model → HasTrail s.model s.units s.state → s.answered ≡ true → Says s.model s.state a → IsAnswered s a
answer_is s a e v h g y = record { ended = e; says = y; is_true = answers_are_true s.model free h.units s.state a v h.trail e.at_rest e.over y; given = g }

pub answer_of : (s : Held) (p : Progress) → HasEnded s → IsValid s.model → HasTrail s.model s.units s.state → s.answered ≡ true → IsTold s.model s.state p → IsAnswerOf s p
answer_of s (progress.Optimal x v) e k h g y = answer_is s (optimal x.items v) e k h g y
answer_of s progress.Infeasible e k h g y = answer_is s infeasible e k h g y
answer_of s (progress.Unbounded x d) e k h g y = answer_is s (unbounded x.items d.items) e k h g y
answer_of s progress.More e k h g y = absurd y

pub stop_of : (s : Held) (w : trails.Work) (t : SearchStop) → s.state.work ≡ Some w → IsWideStop w t → IsStopOf s t
stop_of s w (stop.WidePivot path basis leaves enters) e h = (w, e, h)
stop_of s w (stop.Budget n) e h = absurd h
stop_of s w stop.Memory e h = absurd h
