-- The units of a trail are few: what is spent and all weights together never grow.
use Rattle.std.proofs.Common.{◌≡◌, ℕ, zero, suc, ◌+◌, ◌*◌, ◌-◌, ◌<◌, ◌≤◌, refl, subst, List, [], ◌∷◌, length, arith, inl, inr}
use Rattle.std.specs.Prelude.{Option, Some, None, slice_get}
use Rattle.dictionaries.specs.Dictionary.{Dictionary, first_of_program, pivoted}
use Rattle.dictionaries.specs.Narrow.{IsNarrowPivot}
use Rattle.dictionaries.specs.Bland.{NextPivot}
use Rattle.dictionaries.proofs.Reaching.{leads_nowhere, leads_further}
use Rattle.linear_models.specs.Model.{Model, IsValid}
use Rattle.node_pick.specs.Rules.{Rule}
use Rattle.searches.specs.Trees.{Node, root}
use Rattle.searches.specs.Trails.{State, Work, start, without_place, is_plain, box_of, node_program, Grows, opens, pivots, stays, grows, SearchUnit, Trail}
use Rattle.searches.proofs.Members.{In, in_place, in_removed}
use Rattle.searches.proofs.Ends.{node_box}
use Rattle.search_bounds.specs.Choices.{IsBounded, at_least_one, choices_in}
use Rattle.search_bounds.specs.Enough.{enough_for}
use Rattle.search_bounds.specs.Laws.{StatedUnitsAreEnough}
use Rattle.search_bounds.specs.Trees.{most_nodes}
use Rattle.search_bounds.proofs.Closing.{becoming_spent}
use Rattle.search_bounds.proofs.Programs.{bases_of, pivots_few}
use Rattle.search_bounds.proofs.Spending.{IsSpent, IsSpentNow, IsSpentWith, paid}
use Rattle.search_bounds.proofs.Weighing.{reserve, weight, weights, weights_remove}
use Rattle.search_bounds.proofs.Weights.{one_node}
use Rattle.search_bounds.proofs.WholeBounds.{HasWholeBounds, model_bounds}

-- a node that waits is opened
pub opened_spent : (m : Model) (u : ℕ) (s : State) (p : ℕ) (node : Node) → IsSpent m u s → slice_get s.waiting p ≡ Some node
    → IsSpentWith m (suc u) (without_place s p) node 0 (first_of_program (node_program m s.way node))
opened_spent m u s p node h e = record {
  fits = λ n y. h.fits n (in_removed s.waiting p n y);
  fits_too = h.fits node (in_place s.waiting p node e);
  spent = subst (λ t. suc u + bases_of m * t ≤ bases_of m * (2 * most_nodes m m.bounds) + (1 + 0)) (taken _ _ _ (weights_remove m s.waiting p node e)) (one_more (bases_of m * (weights m s.waiting + reserve m s.way)) _ h.spent);
  run = leads_nowhere _;
}
  where
    one_more : (a t : ℕ) → u + a ≤ t → suc u + a ≤ t + (1 + 0)
    one_more a t h = omega (arith, h)

    taken : (w r ws : ℕ) → w + r ≡ ws → ws + reserve m s.way ≡ w + (r + reserve m s.way)
    taken w r ws e = omega (arith, e)

-- the node that is worked on has one more pivot
pub pivot_spent : (m : Model) (u : ℕ) (s : State) (node : Node) (k : ℕ) (d : Dictionary) (r c : ℕ) → IsSpentWith m u s node k d → NextPivot d r c → IsNarrowPivot d r c
    → IsSpentWith m (suc u) s node (suc k) (pivoted d r c)
pivot_spent m u s node k d r c h n y = record {
  fits = h.fits;
  fits_too = h.fits_too;
  spent = next _ _ h.spent;
  run = leads_further k (first_of_program (node_program m s.way node)) d (pivoted d r c) r c h.run n y refl;
}
  where
    next : (a t : ℕ) → u + a ≤ t + (1 + k) → suc u + a ≤ t + (1 + suc k)
    next a t h = omega (arith, h)

growing_spent : (m : Model) (rule : Rule) (u : ℕ) (s t : State) (x : SearchUnit) → IsValid m → IsBounded m → IsSpentNow m u s s.work → Grows m rule s x t → IsSpentNow m (suc u) t t.work
growing_spent m rule u s t x v bs h (opens p node t' z o e q b) =
    becoming_spent m (suc u) (without_place s p) node 0 _ t v bs (opened_spent m u s p node (subst (IsSpentNow m u s) z h) e) b
growing_spent m rule u s t x v bs h (pivots w r c t' z n y b) =
    becoming_spent m (suc u) s w.node (suc w.pivots) _ t v bs (pivot_spent m u s w.node w.pivots w.dictionary r c (subst (IsSpentNow m u s) z h) n y) b

pub at_start : (m : Model) → IsValid m → IsBounded m → IsSpent m 0 start
at_start m v b = record { fits = fits; spent = twice (bases_of m) (most_nodes m m.bounds) }
  where
    fits : (n : Node) → In (root 0 ∷ []) n → HasWholeBounds m (box_of m n)
    fits n (inl q) = subst (λ (n : Node). HasWholeBounds m (box_of m n)) q (model_bounds m v b)
    fits n (inr i) = absurd i

    twice : (c n : ℕ) → 0 + c * ((n + 0) + n) ≤ c * (2 * n)
    twice c n = omega arith

trail_spent : (m : Model) (rule : Rule) (us : List SearchUnit) (s : State) → IsValid m → IsBounded m → Trail m rule us s → IsSpentNow m (length us) s s.work
trail_spent m rule us s v b stays = at_start m v b
trail_spent m rule us s v b (grows vs r u t' l g) = growing_spent m rule (length vs) r s u v b (trail_spent m rule vs r v b l) g

-- all units fit in the bases of two trees' nodes
in_two_trees : (m : Model) (u : ℕ) (s : State) (o : Option Work) → IsValid m → IsSpentNow m u s o → u ≤ bases_of m * (2 * most_nodes m m.bounds)
in_two_trees m u s None v h = fewer _ _ h.spent
  where
    fewer : (a t : ℕ) → u + a ≤ t → u ≤ t
    fewer a t h = omega (arith, h)
in_two_trees m u s (Some w) v h =
    below _ _ (paid u (bases_of m) (weight m w.node) (weights m s.waiting + reserve m s.way) _ w.pivots 0 h.spent (pivots_few m (box_of m w.node) (is_plain s.way) w.pivots w.dictionary v (node_box m w.node v) h.run) (one_node m (box_of m w.node)))
  where
    below : (a t : ℕ) → u + a ≤ t → u ≤ t
    below a t h = omega (arith, h)

-- and so they are fewer than those that are stated
pub fewer_than_stated : (m : Model) (u : ℕ) (s : State) (o : Option Work) → IsValid m → IsSpentNow m u s o → u < enough_for m
fewer_than_stated m u s o v h = enough (bases_of m) (at_least_one (choices_in m m.bounds)) (some (choices_in m m.bounds)) (in_two_trees m u s o v h)
  where
    some : (n : ℕ) → 1 ≤ at_least_one n
    some zero = omega arith
    some (suc n) = omega arith

    less : (c p q : ℕ) → q + 1 ≡ 2 * p → u ≤ c * (2 * q) → u < 2 * p * (2 + 2 * c)
    less c p q e k = subst (λ t. u < t * (2 + 2 * c)) e (omega (arith, k))

    enough : (c p : ℕ) → 1 ≤ p → u ≤ c * (2 * (2 * p - 1)) → u < 2 * p * (2 + 2 * c)
    enough c p h k = less c p (2 * p - 1) (omega (arith, h)) k

pub stated_units_are_enough : StatedUnitsAreEnough
stated_units_are_enough m rule us s v b l = fewer_than_stated m (length us) s s.work v (trail_spent m rule us s v b l)
