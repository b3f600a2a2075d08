-- How a run of a search ends.
use Rattle.std.specs.Prelude.{◌≡◌, ◌≤◌, ◌<◌, ◌⊎◌, ◌+◌, ◌∷◌, ◌++◌, ℕ, ℤ, Bool, List, [], true, false, map, Some, Result, Ok, Err, ⊤}
use Rattle.simplex.specs.Solved.{IsWidePivot}
use Rattle.node_pick.specs.Messages.{Message, Hears, question}
use Rattle.searches.specs.Trees.{info}
use Rattle.searches.specs.Trails as trails
use Rattle.searches.specs.Answers as answers
use Rattle.search_paths.specs.Steps.{step_of}
use Rattle.branch_bound.specs.Searches.{Held, HasEnded, IsShort}
use Rattle.branch_bound.specs.declared.progress.Progress.{Progress}
use Rattle.branch_bound.specs.declared.progress.Progress.TheVariants as progress
use Rattle.branch_bound.specs.declared.progress.SearchStop.{SearchStop}
use Rattle.branch_bound.specs.declared.progress.SearchStop.TheVariants as stop

-- the search has ended with this answer, which is true of the model, and is given once
pub record IsAnswered (s : Held) (a : answers.Answer) : Type 0 where
  pub ended : HasEnded s
  pub says : answers.Says s.model s.state a
  pub is_true : answers.IsTrueOf s.model a
  pub given : s.answered ≡ true

-- a leaf is open: a node is worked on, or the search isn't over
pub record HasOpenLeaf (s : Held) : Type 0 where
  pub not_ended : HasEnded s → ⊥
  pub not_given : s.answered ≡ false

-- another unit may be spent
pub record MayGoOn (before units : ℕ) (s : Held) : Type 0 where
  pub leaf : HasOpenLeaf s
  pub in_budget : s.units < s.budget
  pub asked : s.units < before + units

-- the node's path, and its next pivot, which is not narrow, by the variables
pub record IsWide (work : trails.Work) (path : List (ℕ × Bool × ℤ)) (basis : List ℕ) (leaves enters : ℕ) : Type 0 where
  pub path_is : path ≡ map step_of work.node.path
  pub pivot : IsWidePivot work.dictionary basis leaves enters

abbrev pub IsWideAt : trails.State → List (ℕ × Bool × ℤ) → List ℕ → ℕ → ℕ → Type 0
IsWideAt s path basis leaves enters = (work : trails.Work) × (s.work ≡ Some work) × IsWide work path basis leaves enters

-- an answer, and no other end
abbrev pub IsAnswerOf : Held → Progress → Type 0
IsAnswerOf s (progress.Optimal point value) = IsAnswered s (answers.optimal point.items value)
IsAnswerOf s progress.Infeasible = IsAnswered s answers.infeasible
IsAnswerOf s (progress.Unbounded point direction) = IsAnswered s (answers.unbounded point.items direction.items)
IsAnswerOf s progress.More = ⊥

-- after a run that was to spend so many units, from so many spent before
abbrev pub EndsAs : ℕ → ℕ → Held → Result Progress SearchStop → Type 0
EndsAs before units s (Ok (progress.Optimal point value)) = IsAnswered s (answers.optimal point.items value)
EndsAs before units s (Ok progress.Infeasible) = IsAnswered s answers.infeasible
EndsAs before units s (Ok (progress.Unbounded point direction)) = IsAnswered s (answers.unbounded point.items direction.items)
EndsAs before units s (Ok progress.More) = (s.units ≡ before + units) × (s.units < s.budget) × HasOpenLeaf s
EndsAs before units s (Err (stop.WidePivot path basis leaves enters)) = MayGoOn before units s × IsWideAt s.state path.items basis.items leaves enters
EndsAs before units s (Err (stop.Budget n)) = (n ≡ s.units) × (s.budget ≤ s.units) × HasOpenLeaf s
EndsAs before units s (Err stop.Memory) = MayGoOn before units s × IsShort s.state

-- it stops for another reason than that the budget is spent
abbrev pub HasBudgetLeft : SearchStop → Type 0
HasBudgetLeft (stop.WidePivot path basis leaves enters) = ⊤
HasBudgetLeft (stop.Budget n) = ⊥
HasBudgetLeft stop.Memory = ⊤

-- what a picker heard until a run ended: the messages of its units, and after want of memory perhaps the question, which node is opened, once more
abbrev pub HearsUntil : (List Message → Type 0) → (List Message → Type 0) → trails.State → Result Progress SearchStop → List Message → Type 0
HearsUntil before after s (Err stop.Memory) these = Hears before after these ⊎ ((place : ℕ) × Hears before after (these ++ question (map info s.waiting) place ∷ []))
HearsUntil before after s (Err (stop.WidePivot path basis leaves enters)) these = Hears before after these
HearsUntil before after s (Err (stop.Budget n)) these = Hears before after these
HearsUntil before after s (Ok end) these = Hears before after these
