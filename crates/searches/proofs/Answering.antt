-- A search that is over has one answer.
use Rattle.std.proofs.Common.{◌≡◌, ℕ, zero, suc, refl, sym, ap, ◌∙◌, List, [], ◌∷◌, Bool, true, false, ◌⊎◌, inl, inr}
use Rattle.std.specs.Prelude.{Option, Some, None}
use Rattle.linear_models.specs.Model.{Model, is_whole_at}
use Rattle.searches.specs.Trees.{Found, Way}
use Rattle.searches.specs.Trails.{State, HasNoMarks}
use Rattle.searches.specs.Answers.{Answer, optimal, infeasible, unbounded, Says, best_found, none_found, none_in_second, way_from_found, way_at_once}
use Rattle.searches.specs.Laws.{OneAnswer}

no_marks : (marks : List Bool) → ((j : ℕ) → is_whole_at marks j ≡ true → ⊥) ⊎ ((j : ℕ) × (is_whole_at marks j ≡ true))
no_marks [] = inl (λ j e. cc)
no_marks (true ∷ marks) = inr (0, refl)
no_marks (false ∷ marks) = elim (no_marks marks) [ inl h ↦ inl (none h) | inr h ↦ inr (suc h.0, h.1) ]
  where
    none : ((j : ℕ) → is_whole_at marks j ≡ true → ⊥) → (j : ℕ) → is_whole_at (false ∷ marks) j ≡ true → ⊥
    none h zero e = cc
    none h (suc j) e = h j e

same_found : {f g : Found} → Some f ≡ Some g → f ≡ g
same_found e = cc

same_way : {f g : Way} → Some f ≡ Some g → f ≡ g
same_way e = cc

first_tree : (m : Model) (s : State) (o : Option Found) → s.way ≡ None → s.found ≡ o → (a : Answer) × Says m s a × ((b : Answer) → Says m s b → b ≡ a)
first_tree m s None n e = (infeasible, none_found n e, λ b y. one b y)
  where
    one : (b : Answer) → Says m s b → b ≡ infeasible
    one b (best_found f n' e') = let q : None ≡ Some f = sym e ∙ e' in absurd cc
    one b (none_found n' e') = refl
    one b (none_in_second w n' e' k) = refl
    one b (way_from_found w f n' e') = let q : None ≡ Some w = sym n ∙ n' in absurd cc
    one b (way_at_once w t n' e') = let q : None ≡ Some w = sym n ∙ n' in absurd cc
first_tree m s (Some g) n e = (optimal g.point g.value, best_found g n e, λ b y. one b y)
  where
    one : (b : Answer) → Says m s b → b ≡ optimal g.point g.value
    one b (best_found f n' e') = ap (λ (f : Found). optimal f.point f.value) (same_found (sym e' ∙ e))
    one b (none_found n' e') = let q : None ≡ Some g = sym e' ∙ e in absurd cc
    one b (none_in_second w n' e' k) = let q : None ≡ Some w = sym n ∙ n' in absurd cc
    one b (way_from_found w f n' e') = let q : None ≡ Some w = sym n ∙ n' in absurd cc
    one b (way_at_once w t n' e') = let q : None ≡ Some w = sym n ∙ n' in absurd cc

unmarked : (m : Model) (s : State) (w : Way) → HasNoMarks m → s.way ≡ Some w → s.found ≡ None → (a : Answer) × Says m s a × ((b : Answer) → Says m s b → b ≡ a)
unmarked m s w t n e = (unbounded w.point w.direction, way_at_once w t n e, λ b y. one b y)
  where
    one : (b : Answer) → Says m s b → b ≡ unbounded w.point w.direction
    one b (best_found f n' e') = let q : None ≡ Some f = sym e ∙ e' in absurd cc
    one b (none_found n' e') = let q : None ≡ Some w = sym n' ∙ n in absurd cc
    one b (none_in_second w' n' e' k) = absurd (k t)
    one b (way_from_found w' f n' e') = let q : None ≡ Some f = sym e ∙ e' in absurd cc
    one b (way_at_once w' t' n' e') = ap (λ (w : Way). unbounded w.point w.direction) (same_way (sym n' ∙ n))

marked : (m : Model) (s : State) (w : Way) → ¬ (HasNoMarks m) → s.way ≡ Some w → s.found ≡ None → (a : Answer) × Says m s a × ((b : Answer) → Says m s b → b ≡ a)
marked m s w t n e = (infeasible, none_in_second w n e t, λ b y. one b y)
  where
    one : (b : Answer) → Says m s b → b ≡ infeasible
    one b (best_found f n' e') = let q : None ≡ Some f = sym e ∙ e' in absurd cc
    one b (none_found n' e') = refl
    one b (none_in_second w' n' e' k) = refl
    one b (way_from_found w' f n' e') = let q : None ≡ Some f = sym e ∙ e' in absurd cc
    one b (way_at_once w' t' n' e') = absurd (t t')

second_tree : (m : Model) (s : State) (w : Way) (o : Option Found) → s.way ≡ Some w → s.found ≡ o → (a : Answer) × Says m s a × ((b : Answer) → Says m s b → b ≡ a)
second_tree m s w None n e = elim (no_marks m.whole) [ inl h ↦ unmarked m s w h n e | inr h ↦ marked m s w (λ z. z h.0 h.1) n e ]
second_tree m s w (Some g) n e = (unbounded g.point w.direction, way_from_found w g n e, λ b y. one b y)
  where
    one : (b : Answer) → Says m s b → b ≡ unbounded g.point w.direction
    one b (best_found f n' e') = let q : None ≡ Some w = sym n' ∙ n in absurd cc
    one b (none_found n' e') = let q : None ≡ Some w = sym n' ∙ n in absurd cc
    one b (none_in_second w' n' e' k) = let q : None ≡ Some g = sym e' ∙ e in absurd cc
    one b (way_from_found w' f n' e') =
        ap (λ (f : Found). unbounded f.point w'.direction) (same_found (sym e' ∙ e)) ∙ ap (λ (w : Way). unbounded g.point w.direction) (same_way (sym n' ∙ n))
    one b (way_at_once w' t' n' e') = let q : None ≡ Some g = sym e' ∙ e in absurd cc

pub one_answer : OneAnswer
one_answer m s = by_way s.way refl
  where
    by_way : (o : Option Way) → s.way ≡ o → (a : Answer) × Says m s a × ((b : Answer) → Says m s b → b ≡ a)
    by_way None n = first_tree m s s.found n refl
    by_way (Some w) n = second_tree m s w s.found n refl
