-- What is found by a search, and what it means of the sheet.
use Rattle.std.proofs.Common.{◌≡◌, ◌≢◌, ◌<◌, ◌+◌, ℕ, refl, sym, ap, subst, ◌∙◌, arith, length, List, Option, Result, Ok, Err}
use Rattle.std.specs.Prelude.{All, IfOk, Vec}
use Rattle.std.proofs.lemmas.Result.{IfOk-weaker}
use Rattle.memory.specs.declared.Memory.{Memory}
use Rattle.std.specs.Global.{Global}
use Rattle.fractions.specs.Rational.{ℚ}
use Rattle.optimality.specs.Optimal.{Optimal, objective_at}
use Rattle.linear_models.specs.Model.{IsValid, Model}
use Rattle.node_pick.specs.Messages.{Message}
use Rattle.node_pick.specs.Rules.{Rule}
use Rattle.searches.specs.Answers as answers
use Rattle.branch_bound.specs.Ends.{EndsAs, IsAnswerOf}
use Rattle.branch_bound.specs.Searches.{HasTrail, Held, IsContinued}
use Rattle.branch_bound.specs.declared.progress.Progress.{Progress}
use Rattle.branch_bound.specs.declared.progress.Progress.TheVariants as progress
use Rattle.branch_bound.specs.declared.progress.SearchStop.{SearchStop}
use Rattle.branch_bound.specs.declared.progress.SearchStop.TheVariants as stop
use Rattle.commands.specs.Lines.{CanBeSaid}
use Rattle.commands.specs.Refusals.{StepIsListed}
use Rattle.commands.specs.declared.answer.Answer.{Answer}
use Rattle.commands.specs.declared.answer.Answer.TheVariants as answer
use Rattle.workbook.specs.State.{State}
use Rattle.solver_names.specs.Statement.{Statement}
use Rattle.sheet_solving.specs.FromSheetProblems.{ModelIsTheSheet}
use Rattle.commands.specs.FromSheetProblems.{problem_in}
use Rattle.sheet_solving.specs.FromStatementLaws.{IsWhole}
use Rattle.sheet_finding.specs.Finding.{CanBeFound, Finds, IsFound, IsFoundBy, RunsTo, fresh}
use Rattle.sheet_solving.specs.Inner.{ComesTo, HasMore, Runs, TellsStop, answer_in, opened_of}
use Rattle.sheet_solving.specs.Searches.{EndsWith, Opened, Searched, Task, whole_task}
use Rattle.sheet_solving.specs.Solving.{Slices}
use Rattle.sheet_finding.specs.declared.finding.Found.{Found}
use Rattle.sheet_finding.specs.declared.finding.Found.TheVariants as found
use Rattle.sheet_solving.proofs.Ends.{all_stops}
use Rattle.sheet_solving.proofs.Meaning.{best_of}
use Rattle.sheet_solving.proofs.Paths.{IsBelow, cells_listed}
use Rattle.sheet_solving.proofs.Running.{comes_on, stops_on}

-- ---- a search that ends
module _ (task : Task) (book : State) (s : Statement) (m : Model) (o : Opened) (same : ModelIsTheSheet book s m) where
  abbrev IsOptimum : Option ℚ → Vec ℚ Global → Type 0
  IsOptimum value numbers =
      (t : Searched task m) × (v : ℚ) × EndsWith m t.state (answers.optimal numbers.items v)
      × Optimal (problem_in book s) numbers.items × (objective_at (problem_in book s) numbers.items ≡ value)

  pub end_finds : (end : Progress) (f : Found) → ComesTo task m o (answer_in end) → IsFound s end f → Finds task book s m f
  end_finds (progress.Optimal point value) (found.Optimal numbers told) h w =
      let best = best_of book s m point.items value same h.is_true in
      subst (IsOptimum told) (sym w.0) (h.search, value, h.ends, best.optimal, best.worth ∙ sym w.1)
  end_finds (progress.Optimal point value) (found.Told told) h w = absurd w
  end_finds progress.Infeasible (found.Told told) h w =
      subst (λ (told : Answer). Finds task book s m (found.Told told)) (sym w) (h.search, h.ends, (same.answers.infeasible).1 h.is_true, refl)
  end_finds progress.Infeasible (found.Optimal numbers told) h w = absurd w
  end_finds (progress.Unbounded point direction) (found.Told told) h w =
      subst (λ (told : Answer). Finds task book s m (found.Told told)) (sym w)
      (h.search, point.items, direction.items, h.ends, (same.answers.unbounded).1 h.is_true.1.1, refl)
  end_finds (progress.Unbounded point direction) (found.Optimal numbers told) h w = absurd w
  end_finds progress.More f h w = absurd w

-- no cell is in what it tells
pub end_said : (sheets : List (List ℕ)) (s : Statement) (end : Progress) (f : Found) → IsFound s end f → CanBeFound sheets f
end_said sheets s (progress.Optimal point value) (found.Optimal numbers told) w = tt
end_said sheets s (progress.Optimal point value) (found.Told told) w = absurd w
end_said sheets s progress.Infeasible (found.Told told) w = subst (CanBeSaid sheets) (sym w) tt
end_said sheets s progress.Infeasible (found.Optimal numbers told) w = absurd w
end_said sheets s (progress.Unbounded point direction) (found.Told told) w = subst (CanBeSaid sheets) (sym w) tt
end_said sheets s (progress.Unbounded point direction) (found.Optimal numbers told) w = absurd w
end_said sheets s progress.More f w = absurd w

-- ---- a search that stops
pub stop_slices : (task : Task) (book : State) (s : Statement) (m : Model) (o : Opened) (e : SearchStop) (told : Answer) → Runs task m o (Err e) → TellsStop s.decisions e told → Slices task book s m told o book
stop_slices task book s m o e told h w = all_stops task book s m o e (Ok told) h w

pub stop_finds : (task : Task) (book : State) (s : Statement) (m : Model) (o : Opened) (e : SearchStop) (told : Answer) → Runs task m o (Err e) → TellsStop s.decisions e told
    → Finds task book s m (found.Told told)
stop_finds task book s m o (stop.WidePivot path basis leaves enters) (answer.WidePivot steps now_basis now_leaves now_enters) h w =
    stop_slices task book s m o (stop.WidePivot path basis leaves enters) (answer.WidePivot steps now_basis now_leaves now_enters) h w
stop_finds task book s m o (stop.WidePivot path basis leaves enters) _ h w = absurd w
stop_finds task book s m o (stop.Budget n) (answer.Budget units) h w = stop_slices task book s m o (stop.Budget n) (answer.Budget units) h w
stop_finds task book s m o (stop.Budget n) _ h w = absurd w
stop_finds task book s m o stop.Memory told h w = absurd w

-- the cells of what it tells lie on the sheets
pub stands_said : (task : Task) (book : State) (s : Statement) (m : Model) (o : Opened) (e : SearchStop) (told : Answer) → length m.whole ≡ length s.decisions → IsWhole book s
    → Runs task m o (Err e) → TellsStop s.decisions e told → CanBeSaid book.sheets told
stands_said task book s m o (stop.WidePivot path basis leaves enters) (answer.WidePivot steps now_basis now_leaves now_enters) count whole h w =
    subst (All (StepIsListed book.sheets)) (sym w.0)
    (cells_listed book.sheets s.decisions path.items whole.decisions (subst (λ (n : ℕ). All (IsBelow n) path.items) count h.decisions))
stands_said task book s m o (stop.WidePivot path basis leaves enters) _ count whole h w = absurd w
stands_said task book s m o (stop.Budget n) (answer.Budget units) count whole h w = tt
stands_said task book s m o (stop.Budget n) _ count whole h w = absurd w
stands_said task book s m o stop.Memory told count whole h w = absurd w

-- ---- a search that is run with all of its budget
pub is_fresh : (m : Model) (budget : ℕ) (s : Held) → s ≡ fresh m budget → s ≡ fresh s.model budget
is_fresh m budget s e = e ∙ ap (λ (m : Model). fresh m budget) (sym (ap (λ (h : Held). h.model) e))

pub of_model : (task : Task) (m : Model) (budget : ℕ) (s : Held) (o : Opened) (r : Result Progress SearchStop) → s ≡ fresh m budget → RunsTo task s.model o r → RunsTo task m o r
of_model task m budget s o r e h = subst (λ (m : Model). RunsTo task m o r) (ap (λ (h : Held). h.model) e) h

module _ (rule : Rule) (budget : ℕ) (heard : List Message → Type 0) (before after : Held) (is : before ≡ fresh before.model budget) (c : IsContinued rule heard budget before after) where
  pub comes : (p : Progress) → EndsAs before.units budget after (Ok p) → ComesTo (whole_task rule budget) before.model (opened_of after) (answer_in p)
  comes p h = comes_on rule budget budget heard (fresh before.model budget) before after p (answer_in p) is refl c h

  pub stops : (e : SearchStop) (lent : Model) → lent ≡ before.model → IsValid lent → HasTrail after.model after.units after.state → EndsAs before.units budget after (Err e)
      → Runs (whole_task rule budget) before.model (opened_of after) (Err e)
  stops e lent same valid t h = stops_on rule budget budget heard (fresh before.model budget) before after e lent is same valid t c h

  pub runs_to : (r : Result Progress SearchStop) (lent : Model) → lent ≡ before.model → IsValid lent → HasTrail after.model after.units after.state → EndsAs before.units budget after r
      → RunsTo (whole_task rule budget) before.model (opened_of after) r
  runs_to (Ok p) lent same valid t h = comes p h
  runs_to (Err e) lent same valid t h = stops e lent same valid t h

  -- an end is an answer: no unit of the budget is left for more
  no_units : after.units ≡ before.units + budget → after.units < after.budget → ⊥
  no_units n l =
      let k = c.budget in
      let b : before.budget ≡ budget = ap (λ (s : Held). s.budget) is in
      let u : before.units ≡ 0 = ap (λ (s : Held). s.units) is in
      omega (arith, n, l, k, b, u)

  answers_by : (p : Progress) → EndsAs before.units budget after (Ok p) → IsAnswerOf after p
  answers_by (progress.Optimal point value) h = h
  answers_by progress.Infeasible h = h
  answers_by (progress.Unbounded point direction) h = h
  answers_by progress.More h = absurd (no_units h.0 h.1)

  pub answered : (r : Result Progress SearchStop) → EndsAs before.units budget after r → IfOk r (IsAnswerOf after)
  answered (Ok p) h = answers_by p h
  answered (Err e) h = tt

-- it ends
no_more : (rule : Rule) (budget : ℕ) (m : Model) (o : Opened) → HasMore (whole_task rule budget) m o → ⊥
no_more rule budget m o h = omega (arith, h.asked, h.within)

pub ended : (rule : Rule) (budget : ℕ) (m : Model) (o : Opened) (r : Result Progress SearchStop) → RunsTo (whole_task rule budget) m o r → IfOk r (λ (end : Progress). end ≢ progress.More)
ended rule budget m o (Ok p) h = λ e. no_more rule budget m o (subst (λ (p : Progress). ComesTo (whole_task rule budget) m o (answer_in p)) e h)
ended rule budget m o (Err e) h = tt

-- what is found is true of each workbook of which the model is that of the sheet, and its cells lie on the sheets
module _ (task : Task) (book : State) (s : Statement) (m : Model) (o : Opened) where
  pub found_finds : (r : Result Progress SearchStop) (f : Found) → ModelIsTheSheet book s m → RunsTo task m o r → IsFoundBy s r f → Finds task book s m f
  found_finds (Ok end) f same h w = end_finds task book s m o same end f h w
  found_finds (Err e) (found.Told told) same h w = stop_finds task book s m o e told h w
  found_finds (Err e) (found.Optimal numbers value) same h w = absurd w

  pub found_said : (r : Result Progress SearchStop) (f : Found) → IsWhole book s → length m.whole ≡ length s.decisions → RunsTo task m o r → IsFoundBy s r f → CanBeFound book.sheets f
  found_said (Ok end) f whole count h w = end_said book.sheets s end f w
  found_said (Err e) (found.Told told) whole count h w = stands_said task book s m o e told count whole h w
  found_said (Err e) (found.Optimal numbers value) whole count h w = absurd w

-- the same where there is memory to tell it
pub all_found : (task : Task) (s : Statement) (m : Model) (o : Opened) (r : Result Progress SearchStop) (told : Result Found Memory) → RunsTo task m o r → IfOk told (IsFoundBy s r)
    → IfOk told (λ f. (book : State) → ModelIsTheSheet book s m → Finds task book s m f)
all_found task s m o r told h w =
    IfOk-weaker told (IsFoundBy s r) (λ (f : Found). (book : State) → ModelIsTheSheet book s m → Finds task book s m f)
    (λ (f : Found) (w : IsFoundBy s r f). λ book same. found_finds task book s m o r f same h w) w

pub all_said : (task : Task) (s : Statement) (m : Model) (o : Opened) (r : Result Progress SearchStop) (told : Result Found Memory) → RunsTo task m o r → IfOk told (IsFoundBy s r)
    → IfOk told (λ f. (book : State) → IsWhole book s → length m.whole ≡ length s.decisions → CanBeFound book.sheets f)
all_said task s m o r told h w =
    IfOk-weaker told (IsFoundBy s r) (λ (f : Found). (book : State) → IsWhole book s → length m.whole ≡ length s.decisions → CanBeFound book.sheets f)
    (λ (f : Found) (w : IsFoundBy s r f). λ book whole count. found_said task book s m o r f whole count h w) w
