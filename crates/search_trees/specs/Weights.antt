-- The weight of a list of nodes. No public clause cites this module.
use Rattle.std.specs.Prelude.{◌+◌, ℕ, List, [], ◌∷◌}
use Rattle.linear_models.specs.Box.{Box}
use Rattle.linear_models.specs.Model.{Model}
use Rattle.searches.specs.Trees.{Part, box_along}
use Rattle.branch_bound.specs.States.{path_of}
use Rattle.search_certificates.specs.Weights.{leaf_weight}
use Rattle.search_trees.specs.declared.slots.Slot.{Slot}
use Rattle.search_trees.specs.declared.slots.Slot.TheVariants as slots
use Rattle.search_trees.specs.Slots.{slot_at}

-- a split has none of its own
abbrev pub weight_at : Model → Slot → Box → ℕ
weight_at m slots.Waits box = leaf_weight m box
weight_at m (slots.Parts c) box = 0
weight_at m (slots.Clash i j) box = leaf_weight m box
weight_at m (slots.Leaf k) box = leaf_weight m box

abbrev pub added : Model → List (List Part) → List Slot → List ℕ → ℕ
added m paths ss [] = 0
added m paths ss (n ∷ ns) = weight_at m (slot_at ss n) (box_along m.bounds (path_of paths n)) + added m paths ss ns
