-- Searches of a model: what they have to work with, and where their units lead.
use Rattle.std.specs.Prelude.{◌≡◌, ◌<◌, ◌≤◌, ◌+◌, ◌⊎◌, ℕ, List, [], length, None}
use Rattle.linear_models.specs.Model.{Model}
use Rattle.node_pick.specs.Rules.{Rule}
use Rattle.searches.specs.Answers as answers
use Rattle.searches.specs.Trails as trails

-- an open search: its model, the units that were spent, and where they have led
pub record Opened : Type 0 where
  pub model : Model
  pub units : ℕ
  pub state : trails.State

-- one that has spent no unit
abbrev pub begun : Model → Opened
begun m = record { model = m; units = 0; state = trails.start }

-- ---- tasks
-- what a search has to work with: the rule of its picker; the units that were spent before, and where they have led; how many more are
-- asked for; and how many may be spent in all
pub record Task : Type 0 where
  pub rule : Rule
  pub spent : ℕ
  pub from : trails.State
  pub units : ℕ
  pub budget : ℕ

-- to go on with a search
abbrev pub task_from : Rule → Opened → ℕ → ℕ → Task
task_from rule s units budget = record { rule = rule; spent = s.units; from = s.state; units = units; budget = budget }

-- to search from the start on, with all units of the budget
abbrev pub whole_task : Rule → ℕ → Task
whole_task rule budget = record { rule = rule; spent = 0; from = trails.start; units = budget; budget = budget }

-- some units of a search of the model, each made by the rule, no more than are asked for, and none past the budget
pub record Searched (task : Task) (m : Model) : Type 0 where
  pub units : List trails.SearchUnit
  pub state : trails.State
  pub leads : trails.Leads m task.rule task.from units state
  pub asked : length units ≤ task.units
  pub within : (units ≡ []) ⊎ (task.spent + length units ≤ task.budget)

-- all units of the search, those before among them
abbrev pub total : {task : Task} {m : Model} → Searched task m → ℕ
total {task = task} t = task.spent + length t.units

-- where they lead
abbrev pub led_to : {task : Task} {m : Model} → Searched task m → Opened
led_to {m = m} t = record { model = m; units = total t; state = t.state }

-- after so many units of the task another one may be spent
pub record HasUnits (task : Task) (n : ℕ) : Type 0 where
  pub asked : n < task.units
  pub within : task.spent + n < task.budget

-- some units of the task, or none, have led a search there
abbrev pub GoesFurther : Task → Model → Opened → Type 0
GoesFurther task m s = (t : Searched task m) × (s ≡ led_to t)

-- ---- ends
-- the search is over and answers this
pub record EndsWith (m : Model) (s : trails.State) (a : answers.Answer) : Type 0 where
  pub at_rest : s.work ≡ None
  pub over : trails.IsOver m s
  pub says : answers.Says m s a

-- a node is worked on, or one waits to be opened and the search isn't over
abbrev pub HasOpenLeaf : Model → trails.State → Type 0
HasOpenLeaf m s = ¬ ((s.work ≡ None) × trails.IsOver m s)
