-- What inner contracts cite: answers and stops before they are given, and units with what is heard of them.
use Rattle.std.specs.Prelude.{ℕ, List, [], ◌∷◌, map}
use Rattle.dictionaries.specs.Dictionary.{Dictionary}
use Rattle.node_pick.specs.Rules.{Rule}
use Rattle.node_pick.specs.Messages.{Message, Hears, question}
use Rattle.node_pick.specs.declared.info.NodeInfo.{NodeInfo}
use Rattle.linear_models.specs.Model.{Model}
use Rattle.searches.specs.Trees.{Node, info}
use Rattle.searches.specs.Trails as trails
use Rattle.searches.specs.Messages.{end_messages, unit_messages}
use Rattle.searches.specs.Answers as answers
use Rattle.branch_bound.specs.Searches.{Held, IsShort}
use Rattle.branch_bound.specs.Ends.{IsWide, IsWideAt}
use Rattle.branch_bound.specs.declared.search.StepStop.{StepStop}
use Rattle.branch_bound.specs.declared.search.StepStop.TheVariants as step
use Rattle.branch_bound.specs.declared.progress.Progress.{Progress}
use Rattle.branch_bound.specs.declared.progress.Progress.TheVariants as progress
use Rattle.branch_bound.specs.declared.progress.SearchStop.{SearchStop}
use Rattle.branch_bound.specs.declared.progress.SearchStop.TheVariants as stop

-- the answer that the state says
abbrev pub IsTold : Model → trails.State → Progress → Type 0
IsTold m s (progress.Optimal point value) = answers.Says m s (answers.optimal point.items value)
IsTold m s progress.Infeasible = answers.Says m s answers.infeasible
IsTold m s (progress.Unbounded point direction) = answers.Says m s (answers.unbounded point.items direction.items)
IsTold m s progress.More = ⊥

-- the pivot that is told
abbrev pub IsWideStop : trails.Work → SearchStop → Type 0
IsWideStop w (stop.WidePivot path basis leaves enters) = IsWide w path.items basis.items leaves enters
IsWideStop w (stop.Budget n) = ⊥
IsWideStop w stop.Memory = ⊥

abbrev pub IsStopOf : Held → SearchStop → Type 0
IsStopOf s (stop.WidePivot path basis leaves enters) = IsWideAt s.state path.items basis.items leaves enters
IsStopOf s (stop.Budget n) = ⊥
IsStopOf s stop.Memory = IsShort s.state

-- ---- units and what is heard of them
pub record Became (m : Model) (s : trails.State) (node : Node) (k : ℕ) (d : Dictionary) (t : trails.State) (heard : List Message → Type 0) : Type 0 where
  pub becomes : trails.Becomes m s node k d t
  pub hears : heard (end_messages becomes)

pub record Grew (m : Model) (rule : Rule) (s t : trails.State) (heard : List Message → Type 0) : Type 0 where
  pub unit : trails.SearchUnit
  pub grows : trails.Grows m rule s unit t
  pub hears : heard (unit_messages grows)

-- the question, which of these is opened, was heard
pub record IsAsked (before after : List Message → Type 0) (waiting : List NodeInfo) : Type 0 where
  pub place : ℕ
  pub hears : Hears before after (question waiting place ∷ [])

-- no unit was made: memory is wanted after the question
abbrev pub HearsStop : (List Message → Type 0) → (List Message → Type 0) → trails.State → StepStop → Type 0
HearsStop before after s (step.Wide row column) = Hears before after []
HearsStop before after s step.Memory = IsAsked before after (map info s.waiting)
