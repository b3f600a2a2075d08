-- What a search of the model means of the sheet.
use Rattle.std.proofs.Common.{◌≡◌, ◌<◌, ℕ, refl, sym, ap, ◌∙◌, subst, arith, Bool, true, false, List, [], ◌∷◌, length, Option, Some, None, Result, Ok, Err, if◌then◌else◌}
use Rattle.std.specs.Prelude.{All, IfOk, Vec, ℤ}
use Rattle.std.specs.Global.{Global}
use Rattle.std.proofs.lemmas.List.Elements.{All-head, All-tail}
use Rattle.std.proofs.lemmas.List.FromFn.{length-map-range_with_len}
use Rattle.std.proofs.lemmas.Result.{IfOk-weaker}
use Rattle.fractions.specs.Rational.{ℚ}
use Rattle.cell_refs.specs.declared.cell.Cell.{Cell}
use Rattle.memory.specs.declared.Memory.{Memory}
use Rattle.optimality.specs.Problem.{Assignment}
use Rattle.linear_models.specs.Bounds.{is_marked}
use Rattle.linear_models.specs.Model.{Model}
use Rattle.node_pick.specs.Rules.{Rule}
use Rattle.searches.specs.Answers as answers
use Rattle.branch_bound.specs.declared.progress.Progress.{Progress}
use Rattle.branch_bound.specs.declared.progress.Progress.TheVariants as progress
use Rattle.branch_bound.specs.declared.progress.SearchStop.{SearchStop}
use Rattle.branch_bound.specs.declared.progress.SearchStop.TheVariants as stop
use Rattle.recalculation.specs.Entries.{Contents}
use Rattle.cell_refs.specs.Listed.{IsListed}
use Rattle.workbook.specs.Several.{first_without_room, is_too_much}
use Rattle.workbook.specs.State.{State}
use Rattle.std.specs.FinMap.{insert}
use Rattle.solver_names.specs.Statement.{Statement}
use Rattle.sheet_linear_model.specs.Prepared.{IsPrepared, Prepared, rows_of}
use Rattle.commands.specs.FromSheetProblems.{ModelIsTheSheet}
use Rattle.sheet_linear_model.specs.FromStatementLaws.{IsWhole}
use Rattle.write_back.specs.Writing.{number_text, texts_of}
use Rattle.commands.specs.declared.answer.Answer.{Answer}
use Rattle.commands.specs.declared.answer.Answer.TheVariants as answer
use Rattle.commands.specs.declared.answer.PathStep.{PathStep}
use Rattle.commands.specs.Lines.{CanBeSaid}
use Rattle.commands.specs.Refusals.{StepIsListed}
use Rattle.sheet_solving.specs.Searches.{GoesFurther, Opened, Searched, Task, begun, task_from, total, whole_task}
use Rattle.sheet_solving.specs.Solving.{Slices, Solves, StandsAt, by_cells}
use Rattle.sheet_solving.specs.Inner.{Answered, CanBeTold, ComesTo, Runs, Tells, TellsStop, Writes}
use Rattle.sheet_solving.proofs.Meaning.{IsBest, best_of}
use Rattle.sheet_solving.proofs.Paths.{IsBelow, cells_listed}
use Rattle.sheet_solving.proofs.Recalculated.{is_solved}

-- ---- an optimum
-- the cell without room is one of the cells
pub full_listed : (sheets : List (List ℕ)) (contents : Contents) (cells : List Cell) (numbers : List ℚ) (cell : Cell) → All (IsListed sheets) cells
    → first_without_room contents (texts_of cells numbers) ≡ Some cell → IsListed sheets cell
full_listed sheets contents [] numbers cell h e = absurd cc
full_listed sheets contents (c ∷ cells) [] cell h e = absurd cc
full_listed sheets contents (c ∷ cells) (x ∷ numbers) cell h e =
    by_room (is_too_much (insert contents c (number_text x))) (full_listed sheets (insert contents c (number_text x)) cells numbers cell (All-tail (IsListed sheets) c cells h)) e
  where
    by_room : (b : Bool) → (first_without_room (insert contents c (number_text x)) (texts_of cells numbers) ≡ Some cell → IsListed sheets cell)
        → (if b then Some c else first_without_room (insert contents c (number_text x)) (texts_of cells numbers)) ≡ Some cell → IsListed sheets cell
    by_room true further e = let same : c ≡ cell = cc in subst (IsListed sheets) same (All-head (IsListed sheets) c cells h)
    by_room false further e = further e

-- the cells of a path, by equal lists
pub told_cells : (cells decisions : List Cell) (path steps : List (ℕ × Bool × ℤ)) (told : List PathStep) → cells ≡ decisions → path ≡ steps → told ≡ by_cells cells path → told ≡ by_cells decisions steps
told_cells cells decisions path steps told e f h =
    h ∙ (ap (λ (cells : List Cell). by_cells cells path) e ∙ ap (λ (path : List (ℕ × Bool × ℤ)). by_cells decisions path) f)

-- a point of the answer has a number for each decision
pub can_be_told : (task : Task) (m : Model) (o : Opened) (end : Option Progress) (book : State) (s : Statement) → ModelIsTheSheet book s m → ComesTo task m o end → CanBeTold (length s.decisions) end
can_be_told task m o (Some (progress.Optimal point value)) book s same h = (best_of book s m point.items value same h.is_true).one_each
can_be_told task m o (Some progress.Infeasible) book s same h = tt
can_be_told task m o (Some (progress.Unbounded point direction)) book s same h = tt
can_be_told task m o (Some progress.More) book s same h = absurd h
can_be_told task m o None book s same h = tt

written_slices : (task : Task) (before after : State) (s : Statement) (m : Model) (o : Opened) (x : Assignment) (v : ℚ) (told : Answer) → ModelIsTheSheet before s m → IsWhole before s
    → Answered task m o (answers.optimal x v) → Writes before s x v told after → Slices task before s m told o after
written_slices task before after s m o x v told same whole found w = by_end told w
  where
    best : IsBest before s x v
    best = best_of before s m x v same found.is_true

    by_end : (told : Answer) → Writes before s x v told after → Slices task before s m told o after
    by_end (answer.Optimal value) w = (found.search, x, v, found.ends, is_solved before after s x w.1 v value whole.distinct whole.members best w.0)
    by_end (answer.NoRoom cell) w = (found.search, x, v, found.ends, record { optimal = best.optimal; full = w.0 }, w.1)
    by_end _ w = absurd w

-- whatever is told of a search that has an answer or goes on
told_slices : (task : Task) (before after : State) (s : Statement) (m : Model) (o : Opened) (end : Option Progress) (units : ℕ) (told : Answer) → ModelIsTheSheet before s m → IsWhole before s
    → units ≡ o.units → ComesTo task m o end → Tells before s end units told after → Slices task before s m told o after
told_slices task before after s m o (Some (progress.Optimal point value)) units told same whole is h w = written_slices task before after s m o point.items value told same whole h w
told_slices task before after s m o (Some progress.Infeasible) units told same whole is h w =
    subst (λ (told : Answer). Slices task before s m told o after) (sym w.0) (h.search, h.ends, (same.answers.infeasible).1 h.is_true, w.1)
told_slices task before after s m o (Some (progress.Unbounded point direction)) units told same whole is h w =
    subst (λ (told : Answer). Slices task before s m told o after) (sym w.0) (h.search, point.items, direction.items, h.ends, (same.answers.unbounded).1 h.is_true.1.1, w.1)
told_slices task before after s m o (Some progress.More) units told same whole is h w = absurd h
told_slices task before after s m o None units told same whole is h w =
    subst (λ (told : Answer). Slices task before s m told o after) (sym w.0) (h.search, is ∙ ap (λ (o : Opened). o.units) h.led, h.asked, h.within, h.leaf, h.led, w.1)

pub all_told : (task : Task) (before after : State) (s : Statement) (m : Model) (o : Opened) (end : Option Progress) (units : ℕ) (r : Result Answer Memory) → ModelIsTheSheet before s m → IsWhole before s
    → units ≡ o.units → ComesTo task m o end → IfOk r (λ told. Tells before s end units told after) → IfOk r (λ told. Slices task before s m told o after)
all_told task before after s m o end units r same whole is h w =
    IfOk-weaker r (λ (told : Answer). Tells before s end units told after) (λ (told : Answer). Slices task before s m told o after)
    (λ (told : Answer) (w : Tells before s end units told after). told_slices task before after s m o end units told same whole is h w) w

-- ---- searches that stop
stop_slices : (task : Task) (book : State) (s : Statement) (m : Model) (o : Opened) (e : SearchStop) (told : Answer) → Runs task m o (Err e) → TellsStop s.decisions e told → Slices task book s m told o book
stop_slices task book s m o (stop.WidePivot path basis leaves enters) (answer.WidePivot steps basis' leaves' enters') h w =
    let at : StandsAt task s.decisions (length h.search.units) h.search.state steps.items basis.items leaves enters = record { steps = path.items; wide = h.wide; cells = w.0; left = h.left } in
    let with_basis : StandsAt task s.decisions (length h.search.units) h.search.state steps.items basis'.items leaves enters =
    subst (λ (b : Vec ℕ Global). StandsAt task s.decisions (length h.search.units) h.search.state steps.items b.items leaves enters) (sym w.1) at in
    let with_leaves : StandsAt task s.decisions (length h.search.units) h.search.state steps.items basis'.items leaves' enters =
    subst (λ (l : ℕ). StandsAt task s.decisions (length h.search.units) h.search.state steps.items basis'.items l enters) (sym w.2) with_basis in
    (h.search, subst (λ (l : ℕ). StandsAt task s.decisions (length h.search.units) h.search.state steps.items basis'.items leaves' l) (sym w.3) with_leaves, refl)
stop_slices task book s m o (stop.WidePivot path basis leaves enters) _ h w = absurd w
stop_slices task book s m o (stop.Budget n) (answer.Budget units) h w =
    subst (λ (k : ℕ). Slices task book s m (answer.Budget k) o book) (sym w) (h.search, h.spent, h.whole, h.leaf, refl)
stop_slices task book s m o (stop.Budget n) _ h w = absurd w
stop_slices task book s m o stop.Memory told h w = absurd w

pub all_stops : (task : Task) (book : State) (s : Statement) (m : Model) (o : Opened) (e : SearchStop) (r : Result Answer Memory) → Runs task m o (Err e) → IfOk r (TellsStop s.decisions e)
    → IfOk r (λ told. Slices task book s m told o book)
all_stops task book s m o e r h w =
    IfOk-weaker r (TellsStop s.decisions e) (λ (told : Answer). Slices task book s m told o book) (λ (told : Answer) (w : TellsStop s.decisions e told). stop_slices task book s m o e told h w) w

-- ---- units that aren't lost
pub further : (task : Task) (m : Model) (o : Opened) (end : Option Progress) → ComesTo task m o end → GoesFurther task m o
further task m o (Some (progress.Optimal point value)) h = (h.search, h.led)
further task m o (Some progress.Infeasible) h = (h.search, h.led)
further task m o (Some (progress.Unbounded point direction)) h = (h.search, h.led)
further task m o (Some progress.More) h = absurd h
further task m o None h = (h.search, h.led)

pub further_at_stop : (task : Task) (m : Model) (o : Opened) (e : SearchStop) → Runs task m o (Err e) → GoesFurther task m o
further_at_stop task m o (stop.WidePivot path basis leaves enters) h = (h.search, h.led)
further_at_stop task m o (stop.Budget n) h = (h.search, h.led)
further_at_stop task m o stop.Memory h = h

-- ---- searches
-- a search as its callers see it
pub seen : (rule : Rule) (units budget : ℕ) (first lent o : Opened) (r : Result (Option Progress) SearchStop) → first ≡ lent → Runs (task_from rule first units budget) first.model o r
    → Runs (task_from rule lent units budget) lent.model o r
seen rule units budget first lent o r e h = subst (λ (f : Opened). Runs (task_from rule f units budget) f.model o r) e h

-- ---- searches that are run to their end
never_more : (rule : Rule) (budget : ℕ) (m : Model) (t : Searched (whole_task rule budget) m) → length t.units ≡ budget → total t < budget → ⊥
never_more rule budget m t e l = omega (arith, e, l)

whole_solves : (rule : Rule) (budget : ℕ) (before after : State) (s : Statement) (m : Model) (o : Opened) (told : Answer) → Slices (whole_task rule budget) before s m told o after
    → Solves (whole_task rule budget) before s m told after
whole_solves rule budget before after s m o (answer.More n) h = absurd (never_more rule budget m h.0 h.2 h.3)
whole_solves rule budget before after s m o told h = h

pub all_solved : (rule : Rule) (budget : ℕ) (before after : State) (s : Statement) (m : Model) (first o : Opened) (r : Result Answer Memory) → first ≡ begun m
    → IfOk r (λ told. Slices (task_from rule first budget budget) before s first.model told o after) → IfOk r (λ told. Solves (whole_task rule budget) before s m told after)
all_solved rule budget before after s m first o r is h =
    IfOk-weaker r (λ (told : Answer). Slices (task_from rule (begun m) budget budget) before s m told o after) (λ (told : Answer). Solves (whole_task rule budget) before s m told after)
    (λ (told : Answer) (h : Slices (whole_task rule budget) before s m told o after). whole_solves rule budget before after s m o told h)
    (subst (λ (f : Opened). IfOk r (λ told. Slices (task_from rule f budget budget) before s f.model told o after)) is h)

-- ---- cells of a path
-- the model has the sheet's decisions
pub decisions_are : (book : State) (sheet : ℕ) (p : Prepared) → IsPrepared book sheet p → length p.model.whole ≡ length p.statement.decisions
decisions_are book sheet p h = ap (λ (m : Model). length m.whole) h.model ∙ length-map-range_with_len (is_marked (rows_of p.statement p.objective p.sides)) 0 (length p.statement.decisions)

stands_listed : (task : Task) (book : State) (sheet : ℕ) (p : Prepared) (s : Statement) (m : Model) (o : Opened) (e : SearchStop) (told : Answer) → IsPrepared book sheet p → p.statement ≡ s → p.model ≡ m
    → IsWhole book s → Runs task m o (Err e) → TellsStop s.decisions e told → CanBeSaid book.sheets told
stands_listed task book sheet p s m o (stop.WidePivot path basis leaves enters) (answer.WidePivot steps basis' leaves' enters') prepared same is whole h w =
    let count : length m.whole ≡ length s.decisions = sym (ap (λ (m : Model). length m.whole) is) ∙ (decisions_are book sheet p prepared ∙ ap (λ (s : Statement). length s.decisions) same) in
    subst (All (StepIsListed book.sheets)) (sym w.0)
    (cells_listed book.sheets s.decisions path.items whole.decisions (subst (λ (n : ℕ). All (IsBelow n) path.items) count h.decisions))
stands_listed task book sheet p s m o (stop.WidePivot path basis leaves enters) _ prepared same is whole h w = absurd w
stands_listed task book sheet p s m o (stop.Budget n) (answer.Budget units) prepared same is whole h w = tt
stands_listed task book sheet p s m o (stop.Budget n) _ prepared same is whole h w = absurd w
stands_listed task book sheet p s m o stop.Memory told prepared same is whole h w = absurd w

pub all_listed : (task : Task) (book : State) (sheet : ℕ) (p : Prepared) (s : Statement) (m : Model) (o : Opened) (e : SearchStop) (r : Result Answer Memory) → IsPrepared book sheet p → p.statement ≡ s → p.model ≡ m
    → IsWhole book s → Runs task m o (Err e) → IfOk r (TellsStop s.decisions e) → IfOk r (CanBeSaid book.sheets)
all_listed task book sheet p s m o e r prepared same is whole h w =
    IfOk-weaker r (TellsStop s.decisions e) (CanBeSaid book.sheets) (λ (told : Answer) (w : TellsStop s.decisions e told). stands_listed task book sheet p s m o e told prepared same is whole h w) w
