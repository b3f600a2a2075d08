-- What is answered of the solve of a sheet, and what it leaves.
use Rattle.std.specs.Prelude.{◌≡◌, ℕ, List}
use Rattle.cell_refs.specs.declared.cell.Cell.{Cell}
use Rattle.linear_models.specs.Model.{Model}
use Rattle.node_pick.specs.Rules.{Rule}
use Rattle.workbook.specs.State.{State}
use Rattle.sheet_linear_model.specs.Answers.{HasNoModel}
use Rattle.sheet_linear_model.specs.Prepared.{IsPrepared, Prepared}
use Rattle.solver_names.specs.Statement.{Statement}
use Rattle.kept_book.specs.FromSheetSolving.{Task, whole_task}
use Rattle.kept_book.specs.FromSheetSolving.{Solves}
use Rattle.commands.specs.declared.answer.Answer.{Answer}
use Rattle.commands.specs.declared.answer.Answer.TheVariants as answer
use Rattle.session.specs.States.{SessionState, with_book, with_changed}

-- where an optimum is written into these cells, the files of their sheets count as changed
abbrev pub with_written : Answer → List Cell → SessionState → SessionState
with_written (answer.Optimal value) cells s = with_changed s cells
with_written a cells s = s

-- how a search of the sheet's model ends, for what its names state: the session is as before but for what an optimum writes into the
-- cells to be decided
abbrev pub SearchEnds : Task → SessionState → Statement → Model → Answer → SessionState → Type 0
SearchEnds task before s m a after = (book : State) × Solves task before.book s m a book × (after ≡ with_written a s.decisions (with_book before book))

-- the sheet has no model, and nothing has changed; or something is done with its model
abbrev pub WithModel : (Prepared → Answer → SessionState → Type 0) → SessionState → ℕ → Answer → SessionState → Type 0
WithModel Act before sheet (answer.Names fault) after = HasNoModel before.book sheet (answer.Names fault) × (after ≡ before)
WithModel Act before sheet (answer.Form refusal) after = HasNoModel before.book sheet (answer.Form refusal) × (after ≡ before)
WithModel Act before sheet (answer.WideRow row) after = HasNoModel before.book sheet (answer.WideRow row) × (after ≡ before)
WithModel Act before sheet a after = (p : Prepared) × IsPrepared before.book sheet p × Act p a after

-- a search of the sheet's model ends that begins anew, goes by the picker's rule, and may spend all units of the session's budget; open
-- searches stay as they are
abbrev pub SolvesSheet : Rule → SessionState → ℕ → Answer → SessionState → Type 0
SolvesSheet rule before = WithModel (λ p. SearchEnds (whole_task rule before.budget) before p.statement p.model) before
