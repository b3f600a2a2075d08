-- A budget that is enough is never spent.
use Rattle.std.proofs.Common.{◌≡◌, ◌≤◌, ◌<◌, ℕ, sym, subst, List, Result, Option, Some, None}
use Rattle.std.specs.Prelude.{IfOk}
use Rattle.std.proofs.lemmas.Result.{IfOk-weaker}
use Rattle.cell_refs.specs.declared.cell.Cell.{Cell}
use Rattle.memory.specs.declared.Memory.{Memory}
use Rattle.search_bounds.specs.Choices.{IsBounded}
use Rattle.search_bounds.specs.Enough.{enough_for}
use Rattle.branch_bound.specs.Searches.{Held}
use Rattle.branch_bound.specs.Ends.{HasBudgetLeft as StopsWithin}
use Rattle.branch_bound.specs.declared.progress.Progress.{Progress}
use Rattle.branch_bound.specs.declared.progress.Progress.TheVariants as progress
use Rattle.branch_bound.specs.declared.progress.SearchStop.{SearchStop}
use Rattle.branch_bound.specs.declared.progress.SearchStop.TheVariants as stop
use Rattle.workbook.specs.State.{State}
use Rattle.solver_names.specs.Statement.{Statement}
use Rattle.commands.specs.declared.answer.Answer.{Answer}
use Rattle.commands.specs.declared.answer.Answer.TheVariants as answer
use Rattle.sheet_solving.specs.Inner.{Tells, TellsStop}
use Rattle.sheet_solving.specs.Searches.{Opened}
use Rattle.sheet_solving.specs.Solving.{HasBudgetLeft}

-- a search whose budget is set first
pub left_on : (first before : Held) (budget : ℕ) (e : SearchStop) → before ≡ record first { budget = budget } → (IsBounded before.model → enough_for before.model ≤ before.budget → StopsWithin e)
    → IsBounded first.model → enough_for first.model ≤ budget → StopsWithin e
left_on first before budget e is h = subst (λ (s : Held). IsBounded s.model → enough_for s.model ≤ s.budget → StopsWithin e) is h

pub few_on : (first before : Held) (budget n : ℕ) → before ≡ record first { budget = budget } → (IsBounded before.model → n < enough_for before.model) → IsBounded first.model → n < enough_for first.model
few_on first before budget n is h = subst (λ (s : Held). IsBounded s.model → n < enough_for s.model) is h

-- what is told of an answer, or of a search that goes on
told_left : (before after : State) (s : Statement) (end : Option Progress) (units : ℕ) (told : Answer) → Tells before s end units told after → HasBudgetLeft told
told_left before after s (Some (progress.Optimal point value)) units (answer.Budget n) w = absurd w
told_left before after s (Some (progress.Optimal point value)) units _ w = tt
told_left before after s (Some progress.Infeasible) units told w = subst HasBudgetLeft (sym w.0) tt
told_left before after s (Some (progress.Unbounded point direction)) units told w = subst HasBudgetLeft (sym w.0) tt
told_left before after s (Some progress.More) units told w = absurd w
told_left before after s None units told w = subst HasBudgetLeft (sym w.0) tt

pub all_told_left : (before after : State) (s : Statement) (end : Option Progress) (units : ℕ) (r : Result Answer Memory) → IfOk r (λ told. Tells before s end units told after) → IfOk r HasBudgetLeft
all_told_left before after s end units r w =
    IfOk-weaker r (λ (told : Answer). Tells before s end units told after) HasBudgetLeft (λ (told : Answer) (w : Tells before s end units told after). told_left before after s end units told w) w

-- what is told of a search that stops
stop_left : (decisions : List Cell) (e : SearchStop) (told : Answer) → StopsWithin e → TellsStop decisions e told → HasBudgetLeft told
stop_left decisions (stop.WidePivot path basis leaves enters) (answer.Budget n) h w = absurd w
stop_left decisions (stop.WidePivot path basis leaves enters) _ h w = tt
stop_left decisions (stop.Budget n) told h w = absurd h
stop_left decisions stop.Memory told h w = absurd w

pub all_stops_left : (decisions : List Cell) (e : SearchStop) (r : Result Answer Memory) → StopsWithin e → IfOk r (TellsStop decisions e) → IfOk r HasBudgetLeft
all_stops_left decisions e r h w = IfOk-weaker r (TellsStop decisions e) HasBudgetLeft (λ (told : Answer) (w : TellsStop decisions e told). stop_left decisions e told h w) w

-- an open search as its callers see it
pub left_seen : (first lent : Opened) (budget : ℕ) (e : SearchStop) → first ≡ lent → (IsBounded first.model → enough_for first.model ≤ budget → StopsWithin e) → IsBounded lent.model → enough_for lent.model ≤ budget → StopsWithin e
left_seen first lent budget e is h = subst (λ (o : Opened). IsBounded o.model → enough_for o.model ≤ budget → StopsWithin e) is h

pub few_seen : (first lent : Opened) (n : ℕ) → first ≡ lent → (IsBounded first.model → n < enough_for first.model) → IsBounded lent.model → n < enough_for lent.model
few_seen first lent n is h = subst (λ (o : Opened). IsBounded o.model → n < enough_for o.model) is h
