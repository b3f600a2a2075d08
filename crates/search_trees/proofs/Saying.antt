-- The tree that is made is that of the answer.
use Rattle.std.proofs.Common.{◌≡◌, ◌≢◌, ℕ, refl, sym, ap, ◌∙◌, subst, List, inl, inr, Bool, true, false}
use Rattle.std.specs.Prelude.{Option, Some, None, Result, Ok, Err, IfOk, ◌↔◌, IsTrue, not}
use Rattle.std.specs.Option.{option_map, is_some}
use Rattle.std.proofs.lemmas.Bool.{false≢true}
use Rattle.node_pick.specs.Rules.{free}
use Rattle.linear_models.specs.Model.{Model, IsValid}
use Rattle.opt_certificate.specs.Certificate.{Tree}
use Rattle.opt_certificate.specs.Checks.{Checked}
use Rattle.opt_certificate.specs.Nodes.{Node, IsListed}
use Rattle.opt_certificate.proofs.OneTree.{listed_once}
use Rattle.opt_certificate.specs.declared.checking.CheckStop.{CheckStop}
use Rattle.searches.specs.Trees as trees
use Rattle.searches.specs.Trails.{State, Work, HasNoMarks, IsOver}
use Rattle.searches.specs.Answers.{Answer, Says, best_found, none_found, none_in_second, way_from_found, way_at_once}
use Rattle.branch_bound.specs.declared.frontier.Frontier.{Frontier}
use Rattle.branch_bound.specs.Searches.{HasTrail}
use Rattle.branch_bound.specs.States.{state_of, found_of, way_of}
use Rattle.search_certificates.specs.Laws.{IsSearchTree}
use Rattle.search_certificates.specs.Trees.{IsLastTree, IsTreeOf, claim_of_answer}
use Rattle.search_certificates.proofs.Certifying.{search_trees_are_not_refused}
use Rattle.search_trees.specs.declared.stop.TreeStop.{TreeStop}
use Rattle.search_trees.specs.declared.stop.TreeStop.TheVariants as stops
use Rattle.search_trees.specs.Trees.{TreeMade, LastTreeMade, IsOfSearch, IsUnboundedBy}

-- a search that has ended, and the frontier where it stands
pub record IsDone (m : Model) (f : Frontier) (n : ℕ) (s : State) : Type 0 where
  pub valid : IsValid m
  pub trail : HasTrail m n s
  pub at_rest : s.work ≡ None
  pub over : IsOver m s
  pub is : s ≡ state_of f None

pub rests : (s t : State) → s.work ≡ None → record s { work = None } ≡ t → s ≡ t
rests s t e h = ap (λ (w : Option Work). record s { work = w }) e ∙ h

pub of_search : (m : Model) (f : Frontier) (n : ℕ) (s : State) → IsDone m f n s → IsOfSearch m (state_of f None)
of_search m f n s h = subst (IsOfSearch m) h.is record { rule = free; units = h.trail.units; trail = h.trail.trail }

search_tree : (m : Model) (f : Frontier) (n : ℕ) (s : State) (a : Answer) (t : Option Tree) → IsDone m f n s → Says m s a → IsTreeOf m s a t → IsSearchTree m s a t
search_tree m f n s a t h y x = record { rule = free; units = h.trail.units; trail = h.trail.trail; at_rest = h.at_rest; over = h.over; says = y; is_tree = x }

-- ---- unbounded or not
some_of : {X Y : Type 0} (g : X → Y) (o : Option X) (y : Y) → option_map g o ≡ Some y → (x : X) × (o ≡ Some x)
some_of g None y e = absurd cc
some_of g (Some x) y e = (x, refl)

none_of : {X Y : Type 0} (g : X → Y) (o : Option X) (x : X) → o ≡ Some x → option_map g o ≡ None → ⊥
none_of g None x e h = absurd cc
none_of g (Some y) x e h = absurd cc

way_is : (f : Frontier) (s : State) (y : Option trees.Way) → s ≡ state_of f None → s.way ≡ y → option_map way_of f.way ≡ y
way_is f s y e h = sym (ap (λ (s : State). s.way) e) ∙ h

found_is : (f : Frontier) (s : State) (y : Option trees.Found) → s ≡ state_of f None → s.found ≡ y → option_map found_of f.found ≡ y
found_is f s y e h = sym (ap (λ (s : State). s.found) e) ∙ h

unbounded_tree : (m : Model) (f : Frontier) (s : State) (a : Answer) → s ≡ state_of f None → IsUnboundedBy m f → Says m s a → IsTreeOf m s a None
unbounded_tree m f s _ e u (best_found x w y) = absurd (none_of way_of f.way u.0.0 u.0.1 (way_is f s None e w))
unbounded_tree m f s _ e u (none_found w y) = absurd (none_of way_of f.way u.0.0 u.0.1 (way_is f s None e w))
unbounded_tree m f s _ e u (none_in_second w q y n) = absurd (elim u.1 [ inl x ↦ none_of found_of f.found x.0 x.1 (found_is f s None e y) | inr k ↦ n k ])
unbounded_tree m f s _ e u (way_from_found w x q y) = refl
unbounded_tree m f s _ e u (way_at_once w k q y) = refl

bounded_tree : (m : Model) (f : Frontier) (s : State) (a : Answer) (t : Tree) → s ≡ state_of f None → (IsUnboundedBy m f → ⊥) → Says m s a → IsLastTree m s t → IsTreeOf m s a (Some t)
bounded_tree m f s _ t e u (best_found x w y) l = (t, refl, l)
bounded_tree m f s _ t e u (none_found w y) l = (t, refl, l)
bounded_tree m f s _ t e u (none_in_second w q y n) l = (t, refl, l)
bounded_tree m f s _ t e u (way_from_found w x q y) l = absurd (u (some_of way_of f.way w (way_is f s (Some w) e q), inl (some_of found_of f.found x (found_is f s (Some x) e y))))
bounded_tree m f s _ t e u (way_at_once w k q y) l = absurd (u (some_of way_of f.way w (way_is f s (Some w) e q), inr k))

pub unbounded_made : (m : Model) (f : Frontier) (n : ℕ) (s : State) (nodes : List Node) → IsDone m f n s → IsUnboundedBy m f → IsListed nodes None → (a : Answer) → Says m s a → TreeMade m s a (Ok nodes)
unbounded_made m f n s nodes h u l a y = (None, search_tree m f n s a None h y (unbounded_tree m f s a h.is u y), l, tt)

pub bounded_made : (m : Model) (f : Frontier) (n : ℕ) (s : State) (r : Result (List Node) TreeStop) → IsDone m f n s → (IsUnboundedBy m f → ⊥) → LastTreeMade m (state_of f None) r → (a : Answer) → Says m s a
    → TreeMade m s a r
bounded_made m f n s (Ok nodes) h u (t, l, q, w) a y = (Some t, search_tree m f n s a (Some t) h y (bounded_tree m f s a t h.is u y (subst (λ (s : State). IsLastTree m s t) (sym h.is) l)), q, w)
bounded_made m f n s (Err (stops.TooLong k)) h u (t, l, q, w) a y = (t, search_tree m f n s a (Some t) h y (bounded_tree m f s a t h.is u y (subst (λ (s : State). IsLastTree m s t) (sym h.is) l)), q, w)
bounded_made m f n s (Err stops.Memory) h u l a y = tt

-- ---- no check refuses it
abbrev pub IsNeverRefused : Model → State → List Node → Type 0
IsNeverRefused m s nodes = (a : Answer) (tree : Option Tree) (c : Result Bool CheckStop) → Says m s a → IsListed nodes tree → Checked m tree (claim_of_answer a) c → c ≢ Ok false

pub never_refused : (m : Model) (s : State) (r : Result (List Node) TreeStop) → IsValid m → ((a : Answer) → Says m s a → TreeMade m s a r) → IfOk r (IsNeverRefused m s)
never_refused m s (Ok nodes) v h = λ a tree c y l k.
    let x = h a y in
    search_trees_are_not_refused m s a x.0 c v x.1 (subst (λ (t : Option Tree). Checked m t (claim_of_answer a) c) (listed_once nodes tree x.0 l x.2) k)
never_refused m s (Err e) v h = tt

-- ---- tests
pub one_there : {X : Type 0} (o : Option X) → is_some o ≡ true → (x : X) × (o ≡ Some x)
one_there None e = absurd cc
one_there (Some x) e = (x, refl)

pub none_there : {X : Type 0} (o : Option X) (x : X) → is_some o ≡ false → o ≡ Some x → ⊥
none_there None x e h = absurd cc
none_there (Some y) x e h = absurd cc

pub marks_then : (m : Model) (b : Bool) → IsTrue b ↔ ¬ (HasNoMarks m) → IsTrue (not b) → HasNoMarks m
marks_then m true k t = absurd (false≢true t)
marks_then m false k t = λ j q. absurd (false≢true (k.1 (λ g. g j q)))

pub marks_not : (m : Model) (b : Bool) → IsTrue b ↔ ¬ (HasNoMarks m) → HasNoMarks m → IsTrue (not b)
marks_not m true k g = absurd (k.0 refl g)
marks_not m false k g = refl
