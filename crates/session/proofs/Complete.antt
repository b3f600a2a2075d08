-- A solve of a sheet that can be solved is answered.
use Rattle.std.proofs.Common.{◌≡◌, ◌≤◌, ◌∙◌, ℕ, Bool, List, Option, Some, None, Result, Ok, Err, ap, subst, sym}
use Rattle.std.specs.Prelude.{IfOk, unwrap_or, ℤ}
use Rattle.fractions.specs.Rational.{ℚ}
use Rattle.cell_refs.specs.declared.cell.Cell.{Cell}
use Rattle.cell_refs.specs.declared.cell.SheetId.{SheetId}
use Rattle.linear_models.specs.Model.{Model}
use Rattle.node_pick.specs.Rules.{Rule}
use Rattle.searches.specs.Answers as answers
use Rattle.searches.specs.Trails.{SearchUnit, State as SearchState, Trail}
use Rattle.kept_book.specs.FromBranchBound.{IsWideAt}
use Rattle.search_bounds.specs.Choices.{IsBounded}
use Rattle.search_bounds.specs.Enough.{enough_for}
use Rattle.workbook.specs.State.{State}
use Rattle.kept_book.specs.FromWriteBack.{without_room}
use Rattle.commands.specs.declared.answer.Answer.{Answer}
use Rattle.commands.specs.declared.answer.Answer.TheVariants as answer
use Rattle.sheet_linear_model.specs.Answers.{HasNoModel, Prepares}
use Rattle.sheet_linear_model.specs.Prepared.{IsPrepared, Prepared}
use Rattle.sheet_linear_model.specs.declared.prepared.NoModel.{NoModel}
use Rattle.sheet_linear_model.proofs.Single.{never_both, prepared_is_one}
use Rattle.kept_book.specs.FromSheetSolving.{EndsWith, whole_task}
use Rattle.kept_book.specs.FromSheetSolving.{HasBudgetLeft, HasNoRoom, Solves}
use Rattle.session.specs.Completeness.{CanBeSolved, IsSettled, PivotsAreNarrow}
use Rattle.session.specs.Solves.{SearchEnds}
use Rattle.session.specs.States.{SessionState}
use Rattle.session.proofs.Said.{if_ok_map}

-- no trail by the rule stands at a pivot that isn't narrow
never_wide : (m : Model) (rule : Rule) (us : List SearchUnit) (s : SearchState) (path : List (ℕ × Bool × ℤ)) (basis : List ℕ) (leaves enters : ℕ) → PivotsAreNarrow m rule → Trail m rule us s
    → IsWideAt s path basis leaves enters → ⊥
never_wide m rule us s path basis leaves enters narrow trail wide =
    wide.2.pivot.is_wide (narrow us s wide.0 wide.2.pivot.row wide.2.pivot.column trail wide.1 wide.2.pivot.is_next)

module _ (rule : Rule) (before : SessionState) (sheet : ℕ) (can : CanBeSolved rule before sheet) (p : Prepared) (is : IsPrepared before.book sheet p) where
  same : can.prepared ≡ p
  same = prepared_is_one before.book sheet can.prepared p can.is_prepared is

  never_full : (us : List SearchUnit) (t : SearchState) (x : List ℚ) (v : ℚ) (cell : Cell) → Trail p.model rule us t → EndsWith p.model t (answers.optimal x v) → HasNoRoom before.book p.statement x cell → ⊥
  never_full us t x v cell trail over h =
      let room =
      subst (λ (q : Prepared). Trail q.model rule us t → EndsWith q.model t (answers.optimal x v) → without_room before.book q.statement.decisions x ≡ None) same (can.room us t x v) in
      let both : None ≡ Some cell = sym (room trail over) ∙ h.full in
      cc

  ends : (book : State) (a : Answer) → Solves (whole_task rule before.budget) before.book p.statement p.model a book → HasBudgetLeft a → IsSettled a
  ends book (answer.Optimal value) h left = tt
  ends book answer.Infeasible h left = tt
  ends book answer.Unbounded h left = tt
  ends book (answer.WidePivot path basis leaves enters) h left =
      absurd (never_wide p.model rule h.0.units h.0.state h.1.steps basis.items leaves enters (subst (λ (q : Prepared). PivotsAreNarrow q.model rule) same can.narrow) h.0.leads h.1.wide)
  ends book (answer.Budget n) h left = absurd left
  ends book (answer.NoRoom cell) h left = absurd (never_full h.0.units h.0.state h.1 h.2 cell h.0.leads h.3 h.4)
  ends book _ h left = absurd h

  -- by the end of the search of its model
  settled : (a : Answer) (after : SessionState) → SearchEnds (whole_task rule before.budget) before p.statement p.model a after
      → (IsBounded p.model → enough_for p.model ≤ before.budget → HasBudgetLeft a) → IsSettled a
  settled a after h left =
      ends h.0 a h.1 (left (subst (λ (q : Prepared). IsBounded q.model) same can.bounded) (subst (λ (q : Prepared). enough_for q.model ≤ before.budget) same can.budget))

pub all_settled : {E : Type 0} (rule : Rule) (before after : SessionState) (sheet : ℕ) (p : Prepared) (r : Result Answer E) → IsPrepared before.book sheet p
    → IfOk r (λ a. SearchEnds (whole_task rule before.budget) before p.statement p.model a after) → (IsBounded p.model → enough_for p.model ≤ before.budget → IfOk r HasBudgetLeft)
    → IfOk r (λ a. CanBeSolved rule before sheet → IsSettled a)
all_settled rule before after sheet p (Ok a) is h left = λ can. settled rule before sheet can p is a after h left
all_settled rule before after sheet p (Err e) is h left = tt

-- a sheet that can be solved has a model
pub none_settled : {E : Type 0} (rule : Rule) (before : SessionState) (sheet : ℕ) (stop : NoModel) (r : Result Answer E) → Prepares before.book sheet (Err stop)
    → IfOk r (λ a. (book : State) (sheet : ℕ) → Prepares book sheet (Err stop) → HasNoModel book sheet a) → IfOk r (λ a. CanBeSolved rule before sheet → IsSettled a)
none_settled rule before sheet stop r prepares none =
    if_ok_map r (λ (a : Answer). (book : State) (sheet : ℕ) → Prepares book sheet (Err stop) → HasNoModel book sheet a) (λ (a : Answer). CanBeSolved rule before sheet → IsSettled a)
    (λ a h can. absurd (never_both before.book sheet can.prepared a can.is_prepared (h before.book sheet prepares))) none

-- the sheet that is named
pub settled_named : {E : Type 0} (rule : Rule) (before : SessionState) (o : Option ℕ) (found : SheetId) (r : Result Answer E) → o ≡ Some found.0 → IfOk r (λ a. CanBeSolved rule before found.0 → IsSettled a)
    → IfOk r (λ a. (sheet : ℕ) → o ≡ Some sheet → CanBeSolved rule before sheet → IsSettled a)
settled_named rule before o found r e h =
    if_ok_map r (λ (a : Answer). CanBeSolved rule before found.0 → IsSettled a) (λ (a : Answer). (sheet : ℕ) → o ≡ Some sheet → CanBeSolved rule before sheet → IsSettled a)
    (λ a h sheet f can. h (subst (CanBeSolved rule before) (ap (λ (o : Option ℕ). unwrap_or o 0) (sym f ∙ e)) can)) h

pub none_named : (rule : Rule) (before : SessionState) (o : Option ℕ) (a : Answer) → o ≡ None → (sheet : ℕ) → o ≡ Some sheet → CanBeSolved rule before sheet → IsSettled a
none_named rule before o a e = λ sheet f can. let both : None ≡ Some sheet = sym e ∙ f in let never : ⊥ = cc in absurd never
