-- Groups of decisions.
use Rattle.std.specs.Prelude.{ℕ, ◌<◌, List, Vec, map}
use Rattle.std.specs.Global.{Global}
use Rattle.std.specs.List.{AllByRecursion}

-- lists of numbers of the code
abbrev pub groups_of : List (Vec ℕ Global) → List (List ℕ)
groups_of groups = map (λ (g : Vec ℕ Global). g.items) groups

-- each number is that of one of n decisions
abbrev pub AreDecisions : ℕ → List ℕ → Type 0
AreDecisions n group = AllByRecursion (λ j. j < n) group

abbrev pub AreGroups : ℕ → List (List ℕ) → Type 0
AreGroups n groups = AllByRecursion (AreDecisions n) groups
