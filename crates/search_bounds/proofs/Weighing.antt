-- Each node that waits has a weight: the nodes that a tree of its box has at most.
use Rattle.std.proofs.Common.{◌≡◌, ℕ, zero, suc, ◌+◌, sym, ap, List, [], ◌∷◌, ◌++◌, arith}
use Rattle.std.specs.Prelude.{Option, Some, None, slice_get}
use Rattle.std.specs.List.{remove}
use Rattle.linear_models.specs.Model.{Model}
use Rattle.searches.specs.Trees.{Node, Way}
use Rattle.searches.specs.Trails.{box_of}
use Rattle.search_bounds.specs.Trees.{most_nodes}

abbrev pub weight : Model → Node → ℕ
weight m node = most_nodes m (box_of m node)

abbrev pub weights : Model → List Node → ℕ
weights m [] = 0
weights m (n ∷ ns) = weight m n + weights m ns

-- a second tree may follow
abbrev pub reserve : Model → Option Way → ℕ
reserve m None = most_nodes m m.bounds
reserve m (Some w) = 0

pub weights_append : (m : Model) (a b : List Node) → weights m (a ++ b) ≡ weights m a + weights m b
weights_append m [] b = omega arith
weights_append m (n ∷ a) b = let h = weights_append m a b in omega (arith, h)

pub weights_remove : (m : Model) (ns : List Node) (p : ℕ) (n : Node) → slice_get ns p ≡ Some n → weight m n + weights m (remove ns p) ≡ weights m ns
weights_remove m [] p n e = absurd cc
weights_remove m (k ∷ ns) zero n e = ap (λ (n : Node). weight m n + weights m ns) (sym (same k n e))
  where
    same : (a b : Node) → Some a ≡ Some b → a ≡ b
    same a b e = cc
weights_remove m (k ∷ ns) (suc p) n e = let h = weights_remove m ns p n e in omega (arith, h)
