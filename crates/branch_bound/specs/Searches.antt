-- A search as its callers see it: its model, its budget, the units spent, where its trail stands, and whether its answer has been given.
use Rattle.std.specs.Prelude.{◌≡◌, ◌≤◌, ◌⊎◌, ◌+◌, ℕ, Bool, List, [], length, Some, None}
use Rattle.dictionaries.specs.Narrow.{IsNarrowPivot}
use Rattle.dictionaries.specs.Bland.{NextPivot}
use Rattle.node_pick.specs.Rules.{Rule, free}
use Rattle.node_pick.specs.Messages.{Message}
use Rattle.linear_models.specs.Model.{Model}
use Rattle.searches.specs.Trails as trails
use Rattle.searches.specs.Messages.{trail_messages}
use Rattle.branch_bound.specs.declared.search.StepStop.{StepStop}
use Rattle.branch_bound.specs.declared.search.StepStop.TheVariants.{Wide, Memory}

pub record Held : Type 0 where
  pub model : Model
  pub budget : ℕ
  pub units : ℕ
  pub state : trails.State
  pub answered : Bool

-- the search has ended: no node is worked on, and it is over
pub record HasEnded (s : Held) : Type 0 where
  pub at_rest : s.state.work ≡ None
  pub over : trails.IsOver s.model s.state

-- so many units lead from the start to where the search stands
pub record HasTrail (m : Model) (n : ℕ) (s : trails.State) : Type 0 where
  pub units : List trails.SearchUnit
  pub trail : trails.Trail m free units s
  pub count : length units ≡ n

-- some units, at most so many, were added to the trail by the rule, none where the budget was spent, and what is heard of them was heard;
-- the model and the budget stay
pub record IsContinued (rule : Rule) (heard : List Message → Type 0) (most : ℕ) (before after : Held) : Type 0 where
  pub units : List trails.SearchUnit
  pub leads : trails.Leads before.model rule before.state units after.state
  pub hears : heard (trail_messages leads)
  pub counted : after.units ≡ before.units + length units
  pub at_most : length units ≤ most
  pub in_budget : (units ≡ []) ⊎ (after.units ≤ before.budget)
  pub model : after.model ≡ before.model
  pub budget : after.budget ≡ before.budget

-- a node is worked on, and its next pivot, of this row and column, is not narrow
pub record IsWideNext (s : trails.State) (row column : ℕ) : Type 0 where
  pub work : trails.Work
  pub is : s.work ≡ Some work
  pub next : NextPivot work.dictionary row column
  pub wide : IsNarrowPivot work.dictionary row column → ⊥

-- memory is wanted at an opening, or for what tells a pivot that is not narrow; a narrow pivot takes none
abbrev pub IsShort : trails.State → Type 0
IsShort s = (s.work ≡ None) ⊎ ((row : ℕ) × (column : ℕ) × IsWideNext s row column)

-- why no unit is made
abbrev pub IsStepStop : trails.State → StepStop → Type 0
IsStepStop s (Wide row column) = IsWideNext s row column
IsStepStop s Memory = s.work ≡ None
