-- How a search over the model of a sheet ends, before anything is written.
use Rattle.std.specs.Prelude.{◌≡◌, ℕ, false, List, Result, Ok, Err, ⊤}
use Rattle.fractions.specs.Rational.{ℚ}
use Rattle.optimality.specs.Optimal.{Optimal, objective_at}
use Rattle.linear_models.specs.Model.{Model}
use Rattle.searches.specs.Answers as answers
use Rattle.searches.specs.Trails as trails
use Rattle.commands.specs.Lines.{CanBeSaid}
use Rattle.commands.specs.declared.answer.Answer.TheVariants as answer
use Rattle.workbook.specs.State.{State}
use Rattle.solver_names.specs.Statement.{Statement}
use Rattle.commands.specs.FromSheetProblems.{problem_in}
use Rattle.branch_bound.specs.Searches.{Held}
use Rattle.branch_bound.specs.declared.progress.Progress.{Progress}
use Rattle.branch_bound.specs.declared.progress.Progress.TheVariants as progress
use Rattle.branch_bound.specs.declared.progress.SearchStop.{SearchStop}
use Rattle.sheet_solving.specs.Inner.{ComesTo, Runs, TellsStop, answer_in, told_of}
use Rattle.sheet_solving.specs.Searches.{EndsWith, Opened, Searched, Task}
use Rattle.sheet_solving.specs.Solving.{Solves}
use Rattle.sheet_finding.specs.declared.finding.Found.{Found}
use Rattle.sheet_finding.specs.declared.finding.Found.TheVariants as found

-- an optimum of the sheet with the objective's number, which nothing has been written of; or another answer, which leaves the workbook as it is
abbrev pub Finds : Task → State → Statement → Model → Found → Type 0
Finds task book s m (found.Optimal numbers value) =
    (t : Searched task m) × (v : ℚ) × EndsWith m t.state (answers.optimal numbers.items v)
    × Optimal (problem_in book s) numbers.items × (objective_at (problem_in book s) numbers.items ≡ value)
Finds task book s m (found.Told (answer.Optimal value)) = ⊥
Finds task book s m (found.Told (answer.NoRoom cell)) = ⊥
Finds task book s m (found.Told told) = Solves task book s m told book

-- its cells lie on the sheets
abbrev pub CanBeFound : List (List ℕ) → Found → Type 0
CanBeFound sheets (found.Optimal numbers value) = ⊤
CanBeFound sheets (found.Told told) = CanBeSaid sheets told

-- ---- what is found
-- the answer of a search as it is found
abbrev pub IsFound : Statement → Progress → Found → Type 0
IsFound s (progress.Optimal point value) (found.Optimal numbers told) = (numbers ≡ point) × (told ≡ told_of s value)
IsFound s progress.Infeasible (found.Told told) = told ≡ answer.Infeasible
IsFound s (progress.Unbounded point direction) (found.Told told) = told ≡ answer.Unbounded
IsFound s _ _ = ⊥

-- the same of what a run comes to
abbrev pub IsFoundBy : Statement → Result Progress SearchStop → Found → Type 0
IsFoundBy s (Ok end) f = IsFound s end f
IsFoundBy s (Err e) (found.Told told) = TellsStop s.decisions e told
IsFoundBy s (Err e) (found.Optimal numbers value) = ⊥

-- ---- runs
-- a search of the model that has spent no unit of its budget
abbrev pub fresh : Model → ℕ → Held
fresh m budget = record { model = m; budget = budget; units = 0; state = trails.start; answered = false }

-- what a run comes to: an end, or none where more is to be done, or why it stops
abbrev pub RunsTo : Task → Model → Opened → Result Progress SearchStop → Type 0
RunsTo task m o (Ok end) = ComesTo task m o (answer_in end)
RunsTo task m o (Err e) = Runs task m o (Err e)
