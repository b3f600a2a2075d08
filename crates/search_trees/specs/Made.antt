-- Nodes that are made of slots. No public clause cites this module.
use Rattle.std.specs.Prelude.{◌≡◌, ◌<◌, ℕ, ℤ, Bool, List, [], ◌∷◌, ◌++◌, length, ⊤}
use Rattle.linear_models.specs.Model.{Model}
use Rattle.linear_models.specs.Standard.{standard}
use Rattle.opt_certificate.specs.Nodes.{Node, split_at, best_leaf, clash_leaf}
use Rattle.searches.specs.Trees.{Part, lower, box_along}
use Rattle.branch_bound.specs.States.{path_of}
use Rattle.search_trees.specs.declared.slots.Slot.{Slot}
use Rattle.search_trees.specs.declared.slots.Slot.TheVariants as slots
use Rattle.search_trees.specs.Slots.{slot_at}
use Rattle.search_trees.specs.Solved.{IsLeafOf, RunEnds}

-- the path of a lower part
abbrev pub IsLowerPath : List (List Part) → ℕ → ℕ → ℤ → Type 0
IsLowerPath paths c j f = (qs : List Part) × (path_of paths c ≡ qs ++ lower j f ∷ [])

-- what is asked of the slot of a number
abbrev pub MayBeMade : Model → Bool → List (List Part) → Slot → ℕ → Type 0
MayBeMade m plain paths slots.Waits n = ⊤
MayBeMade m plain paths (slots.Parts c) n = (c < length paths) × (j : ℕ) × (f : ℤ) × IsLowerPath paths c j f
MayBeMade m plain paths (slots.Clash i j) n = ⊤
MayBeMade m plain paths (slots.Leaf k) n = RunEnds (standard m (box_along m.bounds (path_of paths n)) plain) k

-- its node
abbrev pub IsMade : Model → Bool → List (List Part) → Slot → ℕ → Node → Type 0
IsMade m plain paths slots.Waits n node = node ≡ best_leaf []
IsMade m plain paths (slots.Parts c) n node = (j : ℕ) (f : ℤ) → IsLowerPath paths c j f → node ≡ split_at j f 0 0
IsMade m plain paths (slots.Clash i j) n node = node ≡ clash_leaf i j
IsMade m plain paths (slots.Leaf k) n node = IsLeafOf (standard m (box_along m.bounds (path_of paths n)) plain) node

-- those of a list of numbers
abbrev pub AreMade : Model → Bool → List (List Part) → List Slot → List ℕ → List Node → Type 0
AreMade m plain paths ss [] [] = ⊤
AreMade m plain paths ss [] (x ∷ xs) = ⊥
AreMade m plain paths ss (n ∷ ns) [] = ⊥
AreMade m plain paths ss (n ∷ ns) (x ∷ xs) = IsMade m plain paths (slot_at ss n) n x × AreMade m plain paths ss ns xs
