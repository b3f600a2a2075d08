-- How a search goes on: where it isn't over, there is a next unit.
use Rattle.std.specs.Prelude.{◌≡◌, ◌≢◌, ℕ, List, [], map, Some, None}
use Rattle.dictionaries.specs.Narrow.{IsNarrowPivot}
use Rattle.dictionaries.specs.Bland.{NextPivot}
use Rattle.node_pick.specs.Rules.{Rule, Follows}
use Rattle.linear_models.specs.Model.{Model, IsValid}
use Rattle.searches.specs.Trees.{info}
use Rattle.searches.specs.Trails.{State, Work, SearchUnit, opening, pivot, Grows, Trail, IsOver}

-- the node that is worked on has a next pivot, and it is a unit if its numbers are narrow; where none is worked on and the search isn't over,
-- a node can be opened, if the rule allows one
pub record GoesOn (m : Model) (rule : Rule) (s : State) : Type 0 where
  pub at_work : (w : Work) → s.work ≡ Some w → (r : ℕ) × (c : ℕ) × NextPivot w.dictionary r c × (IsNarrowPivot w.dictionary r c → (t : State) × Grows m rule s (pivot r c) t)
  pub at_rest : s.work ≡ None → ¬ (IsOver m s) → (s.waiting ≢ [] → (p : ℕ) × Follows rule (map info s.waiting) p) → (n : ℕ) × (t : State) × Grows m rule s (opening n) t

-- so it is along every trail
abbrev pub SearchGoesOn : Type 0
SearchGoesOn = (m : Model) (rule : Rule) (us : List SearchUnit) (s : State) → IsValid m → Trail m rule us s → GoesOn m rule s
