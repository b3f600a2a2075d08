-- A refused command changes neither the workbook nor the budget nor which files count as changed.
use Rattle.std.proofs.Common.{◌≡◌, ◌∙◌, ℕ, List, true, false, Some, None, Result, Ok, Err, ap, refl}
use Rattle.cell_refs.specs.declared.cell.Cell.{Cell}
use Rattle.linear_models.specs.Model.{Model}
use Rattle.node_pick.specs.Rules.{Rule}
use Rattle.workbook.specs.State.{State}
use Rattle.solver_names.specs.Statement.{Statement}
use Rattle.sheet_linear_model.specs.Prepared.{Prepared}
use Rattle.kept_book.specs.FromSheetSolving.{Task, whole_task}
use Rattle.commands.specs.declared.answer.Answer.{Answer}
use Rattle.commands.specs.declared.answer.Answer.TheVariants as answer
use Rattle.commands.specs.Commands.{Spoken, Set, Clear, Name, Unname, Show, Model as ToModel, Solve, Prices, Begin, Slice, Stop, Budget, Cert, Save, Unknown}
use Rattle.commands.specs.Lines.{is_refusal}
use Rattle.commands.specs.Locating.{cell_named, sheet_named, units_named}
use Rattle.session.specs.Cuts.{Begins, Cut, Sliced, Slices, cut_of, sheet_to_begin, sheet_to_stop}
use Rattle.session.specs.Edits.{cell_to_set, home_to_name, home_to_unname}
use Rattle.session.specs.Laws.{IsUnchanged, RefusedChangesNothing}
use Rattle.session.specs.Certificates.{TellsCertificate}
use Rattle.session.specs.Prices.{TellsPrices}
use Rattle.session.specs.Saves.{Saves}
use Rattle.session.specs.Solves.{SearchEnds, WithModel}
use Rattle.session.specs.States.{SessionState, with_book, without_search}
use Rattle.session.specs.Steps.{Applies, Does, Shows, once_written}

same : (before after : SessionState) → after ≡ before → IsUnchanged before after
same before after e = record { book = ap (λ (s : SessionState). s.book) e; changed = ap (λ (s : SessionState). s.changed) e; budget = ap (λ (s : SessionState). s.budget) e }

module _ (sheets : List (List ℕ)) where
  no_refusal : (a b : Answer) → is_refusal sheets b ≡ false → a ≡ b → is_refusal sheets a ≡ true → ⊥
  no_refusal a b f e r = cc

  does : {A : Type 0} (Act : A → Answer → SessionState → Type 0) (before : SessionState) (x : Result A Answer) (a : Answer) (after : SessionState) → ((y : A) → Act y a after → IsUnchanged before after)
      → Does Act before x a after → IsUnchanged before after
  does Act before (Ok x) a after h d = h x d
  does Act before (Err r) a after h d = same before after d.1

  -- nothing is written
  left : (before after : SessionState) (book : State) → after ≡ with_book before book → book ≡ before.book → after ≡ before
  left before after book e f = e ∙ ap (λ (b : State). with_book before b) f

  search_ends : (task : Task) (before : SessionState) (s : Statement) (m : Model) (a : Answer) (after : SessionState) → SearchEnds task before s m a after → is_refusal sheets a ≡ true → after ≡ before
  search_ends task before s m (answer.Optimal None) after h r = absurd (cc)
  search_ends task before s m (answer.Optimal (Some v)) after h r = absurd (cc)
  search_ends task before s m answer.Infeasible after h r = absurd (cc)
  search_ends task before s m answer.Unbounded after h r = absurd (cc)
  search_ends task before s m (answer.WidePivot path basis leaves enters) after h r = left before after h.0 h.2 h.1.2
  search_ends task before s m (answer.Budget n) after h r = left before after h.0 h.2 h.1.4
  search_ends task before s m (answer.NoRoom cell) after h r = left before after h.0 h.2 h.1.5
  search_ends task before s m _ after h r = absurd h.1

  sliced : (task : Task) (before : SessionState) (sheet : ℕ) (p : Prepared) (a : Answer) (after : SessionState) → Sliced task before sheet p a after → is_refusal sheets a ≡ true → IsUnchanged before after
  sliced task before sheet p (answer.More n) after h r = absurd (cc)
  sliced task before sheet p a after h r =
      let e = search_ends task before p.statement p.model a h.0 h.1 r in
      let last : after ≡ without_search h.0 sheet = h.2 in
      record {
        book = ap (λ (s : SessionState). s.book) last ∙ ap (λ (s : SessionState). s.book) e;
        changed = ap (λ (s : SessionState). s.changed) last ∙ ap (λ (s : SessionState). s.changed) e;
        budget = ap (λ (s : SessionState). s.budget) last ∙ ap (λ (s : SessionState). s.budget) e;
      }

  with_model : (Act : Prepared → Answer → SessionState → Type 0) (before : SessionState) (sheet : ℕ) (a : Answer) (after : SessionState) → ((p : Prepared) → Act p a after → IsUnchanged before after)
      → WithModel Act before sheet a after → IsUnchanged before after
  with_model Act before sheet (answer.Names fault) after h w = same before after w.1
  with_model Act before sheet (answer.Form refusal) after h w = same before after w.1
  with_model Act before sheet (answer.WideRow row) after h w = same before after w.1
  with_model Act before sheet a after h w = h w.0 w.2

  shows : (before : SessionState) (cell : Cell) (a : Answer) (after : SessionState) → Shows before cell a after → IsUnchanged before after
  shows before cell (answer.Shown v) after h = same before after h.1
  shows before cell (answer.WideCell c) after h = same before after h.1
  shows before cell _ after h = absurd h

  saves : (before : SessionState) (a : Answer) (after : SessionState) → Saves before a after → IsUnchanged before after
  saves before (answer.ToSave files) after h = same before after h.1
  saves before _ after h = absurd h

  applies : (rule : Rule) (before after : SessionState) (command : Spoken) (a : Answer) → is_refusal sheets a ≡ true → Applies rule before command a after → IsUnchanged before after
  applies rule before after (Set address text) a r h = does _ before (cell_to_set before.book address text) a after (λ c d. absurd (no_refusal a answer.Done refl d.0 r)) h
  applies rule before after (Clear address) a r h = does _ before (cell_named before.book.sheets address) a after (λ c d. absurd (no_refusal a answer.Done refl d.0 r)) h
  applies rule before after (Name home name text) a r h = does _ before (home_to_name before.book home name text) a after (λ c d. absurd (no_refusal a answer.Done refl d.0 r)) h
  applies rule before after (Unname home name) a r h = does _ before (home_to_unname before.book home name) a after (λ c d. absurd (no_refusal a answer.Done refl d.0 r)) h
  applies rule before after (Show address) a r h = does _ before (cell_named before.book.sheets address) a after (λ c d. shows before c a after d) h
  applies rule before after (ToModel name) a r h = does _ before (sheet_named before.book.sheets name) a after (λ i d. same before after d.1) h
  applies rule before after (Solve name) a r h =
      does _ before (sheet_named before.book.sheets name) a after
      (λ i w. with_model (λ (p : Prepared). SearchEnds (whole_task rule before.budget) before p.statement p.model) before i a after (λ p d. same before after (search_ends _ before p.statement p.model a after d r)) w) h
  applies rule before after (Cert name) a r h =
      does _ before (sheet_named before.book.sheets name) a after (λ i w. with_model (TellsCertificate rule before) before i a after (λ p d. same before after d.1) w) h
  applies rule before after (Prices name) a r h =
      does _ before (sheet_named before.book.sheets name) a after (λ i w. with_model (TellsPrices before) before i a after (λ p d. same before after d.2) w) h
  applies rule before after (Begin name) a r h =
      does _ before (sheet_to_begin before name) a after (λ i w. with_model (Begins before i) before i a after (λ p d. absurd (no_refusal a answer.Begun refl d.0 r)) w) h
  applies rule before after (Slice name units) a r h =
      does _ before (cut_of before name units) a after (λ (c : Cut) w. with_model (Slices rule before c) before c.sheet a after (λ p d. sliced d.0 before c.sheet p a after d.2 r) w) h
  applies rule before after (Stop name) a r h = does _ before (sheet_to_stop before name) a after (λ i d. absurd (no_refusal a answer.Stopped refl d.0 r)) h
  applies rule before after (Budget units) a r h = does _ before (units_named units) a after (λ n d. absurd (no_refusal a answer.Done refl d.0 r)) h
  applies rule before after Save a r h = saves before a after h
  applies rule before after Unknown a r h = same before after h.1

  -- no files are written at a refusal
  none_written : (a : Answer) (s : SessionState) → is_refusal sheets a ≡ true → once_written a s ≡ s
  none_written (answer.ToSave files) s r = absurd (cc)
  none_written _ s r = refl

pub refused_changes_nothing : RefusedChangesNothing
refused_changes_nothing rule before after command a step r =
    let unchanged = applies before.book.sheets rule before step.0 command a r step.1 in
    let e : after ≡ step.0 = step.2 ∙ none_written before.book.sheets a step.0 r in
    record {
      book = ap (λ (s : SessionState). s.book) e ∙ unchanged.book;
      changed = ap (λ (s : SessionState). s.changed) e ∙ unchanged.changed;
      budget = ap (λ (s : SessionState). s.budget) e ∙ unchanged.budget;
    }
