-- What inner contracts cite: what a search of a model comes to, and an optimum that is written.
use Rattle.std.specs.Prelude.{◌≡◌, ◌<◌, ◌≤◌, ℕ, ℤ, Bool, false, List, All, length, Option, Some, None, Result, Ok, Err, ⊤}
use Rattle.std.specs.Option.{option_map}
use Rattle.fractions.specs.Rational.{ℚ, neg_ℚ}
use Rattle.optimality.specs.Problem.{Assignment, Goal, greatest, least, reach}
use Rattle.cell_refs.specs.declared.cell.Cell.{Cell}
use Rattle.commands.specs.declared.answer.Answer.{Answer}
use Rattle.commands.specs.declared.answer.Answer.TheVariants as answer
use Rattle.linear_models.specs.Model.{Model}
use Rattle.searches.specs.Answers as answers
use Rattle.branch_bound.specs.Ends.{IsAnswerOf, IsWideAt}
use Rattle.branch_bound.specs.Searches.{Held}
use Rattle.branch_bound.specs.declared.progress.Progress.{Progress}
use Rattle.branch_bound.specs.declared.progress.Progress.TheVariants as progress
use Rattle.branch_bound.specs.declared.progress.SearchStop.{SearchStop}
use Rattle.branch_bound.specs.declared.progress.SearchStop.TheVariants as stop
use Rattle.workbook.specs.Kinds.{book_of}
use Rattle.workbook.specs.State.{State}
use Rattle.solver_names.specs.Statement.{Statement}
use Rattle.write_back.specs.Writing.{KeepsSides, KeepsValues, with_numbers, without_room}
use Rattle.sheet_solving.specs.Searches.{EndsWith, GoesFurther, HasOpenLeaf, HasUnits, Opened, Searched, Task, led_to, total}
use Rattle.sheet_solving.specs.Solving.{by_cells}

-- ---- searches
-- a search as its callers see it
abbrev pub opened_of : Held → Opened
opened_of s = record { model = s.model; units = s.units; state = s.state }

-- the answer that is kept of a search: that of a search that has ended, and none of one that hasn't
abbrev pub IsKept : Held → Option Progress → Type 0
IsKept s None = s.answered ≡ false
IsKept s (Some answer) = IsAnswerOf s answer

-- the answer, where there is one
abbrev pub answer_in : Progress → Option Progress
answer_in progress.More = None
answer_in answer = Some answer

-- a search of the task stands there and ends with this answer, which is true of the model
pub record Answered (task : Task) (m : Model) (s : Opened) (a : answers.Answer) : Type 0 where
  pub search : Searched task m
  pub led : s ≡ led_to search
  pub ends : EndsWith m search.state a
  pub is_true : answers.IsTrueOf m a

-- it stands there, all units that are asked for are spent, the budget isn't, and a leaf is open
pub record HasMore (task : Task) (m : Model) (s : Opened) : Type 0 where
  pub search : Searched task m
  pub led : s ≡ led_to search
  pub asked : length search.units ≡ task.units
  pub within : total search < task.budget
  pub leaf : HasOpenLeaf m search.state

-- it stands there, at a pivot that isn't narrow, may spend more units, and each step of the path sets a bound of a decision of the model
pub record Stands (task : Task) (m : Model) (s : Opened) (steps : List (ℕ × Bool × ℤ)) (basis : List ℕ) (leaves enters : ℕ) : Type 0 where
  pub search : Searched task m
  pub led : s ≡ led_to search
  pub wide : IsWideAt search.state steps basis leaves enters
  pub left : HasUnits task (length search.units)
  pub decisions : All (λ (step : ℕ × Bool × ℤ). step.0 < length m.whole) steps

-- it stands there, so many units, the whole budget, are spent, and a leaf is open
pub record HasSpent (task : Task) (m : Model) (s : Opened) (n : ℕ) : Type 0 where
  pub search : Searched task m
  pub led : s ≡ led_to search
  pub spent : n ≡ total search
  pub whole : task.budget ≤ n
  pub leaf : HasOpenLeaf m search.state

-- what a search that goes on comes to: its answer, or none where more is to be done
abbrev pub ComesTo : Task → Model → Opened → Option Progress → Type 0
ComesTo task m s (Some (progress.Optimal point value)) = Answered task m s (answers.optimal point.items value)
ComesTo task m s (Some progress.Infeasible) = Answered task m s answers.infeasible
ComesTo task m s (Some (progress.Unbounded point direction)) = Answered task m s (answers.unbounded point.items direction.items)
ComesTo task m s (Some progress.More) = ⊥
ComesTo task m s None = HasMore task m s

-- the same, or why it stops
abbrev pub Runs : Task → Model → Opened → Result (Option Progress) SearchStop → Type 0
Runs task m s (Ok answer) = ComesTo task m s answer
Runs task m s (Err (stop.WidePivot path basis leaves enters)) = Stands task m s path.items basis.items leaves enters
Runs task m s (Err (stop.Budget n)) = HasSpent task m s n
Runs task m s (Err stop.Memory) = GoesFurther task m s

-- why a search stops, by the cells to be decided
abbrev pub TellsStop : List Cell → SearchStop → Answer → Type 0
TellsStop decisions (stop.WidePivot path basis leaves enters) (answer.WidePivot steps now_basis now_leaves now_enters) =
    (steps.items ≡ by_cells decisions path.items) × (now_basis ≡ basis) × (now_leaves ≡ leaves) × (now_enters ≡ enters)
TellsStop decisions (stop.Budget n) (answer.Budget units) = units ≡ n
TellsStop decisions _ _ = ⊥

-- ---- optima
-- the objective's number by that of the search, which seeks the greatest
abbrev pub value_told : Goal → ℚ → ℚ
value_told greatest v = v
value_told least v = neg_ℚ v
value_told (reach wanted) v = wanted

abbrev pub told_of : Statement → ℚ → Option ℚ
told_of s v = option_map (λ c. value_told s.goal v) s.objective

-- the numbers are written into the cells to be decided, and every cell and every formula that stands in none keeps its value
pub record IsWritten (before after : State) (s : Statement) (numbers : Assignment) : Type 0 where
  pub room : without_room before s.decisions numbers ≡ None
  pub written : after ≡ with_numbers before s.decisions numbers
  pub recalculated : KeepsValues (book_of before) s.decisions numbers (book_of after)
  pub sides : KeepsSides (book_of before) s.decisions numbers (book_of after)

-- what comes of writing an optimum with this value of the search
abbrev pub Writes : State → Statement → Assignment → ℚ → Answer → State → Type 0
Writes before s numbers v (answer.Optimal value) after = (value ≡ told_of s v) × IsWritten before after s numbers
Writes before s numbers v (answer.NoRoom cell) after = (without_room before s.decisions numbers ≡ Some cell) × (after ≡ before)
Writes before s numbers v _ after = ⊥

-- what is told of a search by its answer, an optimum written, or by the units that it has spent where it has none
abbrev pub Tells : State → Statement → Option Progress → ℕ → Answer → State → Type 0
Tells before s (Some (progress.Optimal point value)) units told after = Writes before s point.items value told after
Tells before s (Some progress.Infeasible) units told after = (told ≡ answer.Infeasible) × (after ≡ before)
Tells before s (Some (progress.Unbounded point direction)) units told after = (told ≡ answer.Unbounded) × (after ≡ before)
Tells before s (Some progress.More) units told after = ⊥
Tells before s None units told after = (told ≡ answer.More units) × (after ≡ before)

-- an answer that can be told of so many decisions: a point has a number for each
abbrev pub CanBeTold : ℕ → Option Progress → Type 0
CanBeTold n (Some (progress.Optimal point value)) = length point.items ≡ n
CanBeTold n (Some progress.More) = ⊥
CanBeTold n _ = ⊤
