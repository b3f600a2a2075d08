-- What is answered of a sheet: its linear model, or why it has none.
use Rattle.std.specs.Prelude.{◌≡◌, ℕ, Bool, List, Option, Some, None, Result, Ok, Err, ⊤}
use Rattle.workbook.specs.Kinds.{book_of}
use Rattle.workbook.specs.State.{State}
use Rattle.kept_forms.specs.FromExtractIncr.{Kept}
use Rattle.kept_forms.specs.Settling.{Settles, Stops}
use Rattle.kept_forms.specs.Tables.{SheetKept, all_forms}
use Rattle.kept_forms.specs.FromKeptTables.{Parts}
use Rattle.kept_forms.specs.FromKeptTables.{MakesFew}
use Rattle.solver_names.specs.Answers.{Answers, statement_of}
use Rattle.solver_names.specs.Sides.{sides_in}
use Rattle.solver_names.specs.Stated.{statement_in}
use Rattle.solver_names.specs.Statement.{Statement}
use Rattle.solver_names.specs.declared.fault.NamesFault.{NamesFault}
use Rattle.solver_names.specs.declared.fault.NamesFault.TheVariants as told
use Rattle.commands.specs.Lines.{CanBeSaid}
use Rattle.commands.specs.declared.answer.Answer.{Answer}
use Rattle.commands.specs.declared.answer.Answer.TheVariants as answer
use Rattle.sheet_linear_model.specs.declared.prepared.NoModel.{NoModel}
use Rattle.sheet_linear_model.specs.declared.prepared.NoModel.TheVariants as none
use Rattle.sheet_linear_model.specs.declared.prepared.Prepared.{Prepared as Declared}
use Rattle.sheet_linear_model.specs.Prepared.{Prepared, IsPrepared, HasWideRow, IsRefusedBy}

abbrev pub prepared_of : Declared → Prepared
prepared_of p = record { statement = statement_of p.statement; objective = p.objective; sides = p.sides.items; model = p.model }

-- the names have this fault, the first, and it isn't want of memory
abbrev pub HasFault : State → ℕ → NamesFault → Type 0
HasFault book sheet told.Memory = ⊥
HasFault book sheet e = Answers book sheet (Err e)

-- the answer names the first cause why the sheet has no linear model
abbrev pub HasNoModel : State → ℕ → Answer → Type 0
HasNoModel book sheet (answer.Names fault) = HasFault book sheet fault
HasNoModel book sheet (answer.Form refusal) = IsRefusedBy book sheet refusal
HasNoModel book sheet (answer.WideRow row) = HasWideRow book sheet row
HasNoModel book sheet _ = ⊥

abbrev pub Prepares : State → ℕ → Result Declared NoModel → Type 0
Prepares book sheet (Ok p) = IsPrepared book sheet (prepared_of p)
Prepares book sheet (Err (none.Refused a)) = HasNoModel book sheet a
Prepares book sheet (Err none.Memory) = ⊤

-- ---- forms that are kept
-- what the names of a sheet give to those that keep forms: its decision cells, and the right sides that are expressions
abbrev pub parts_stated : State → ℕ → Statement → Parts
parts_stated book sheet s = record { decisions = s.decisions; sides = sides_in book sheet }

abbrev pub parts_or : {E : Type 0} → State → ℕ → Result Statement E → Option Parts
parts_or book sheet (Ok s) = Some (parts_stated book sheet s)
parts_or book sheet (Err fault) = None

-- nothing, where they have a fault
abbrev pub parts_in : State → ℕ → Option Parts
parts_in book sheet = parts_or book sheet (statement_in book sheet)

-- all forms are there for what the names give; where they give nothing, the tables are as they were
abbrev pub AreSettled : State → (ℕ → Bool) → ℕ → Option Parts → List SheetKept → List SheetKept → Type 0
AreSettled book searching sheet (Some parts) before after = (once : Option Kept) × Settles (book_of book) searching sheet parts before after once
AreSettled book searching sheet None before after = after ≡ before

-- where memory runs out nothing has changed, or the sheet's table has those of the forms that were made
abbrev pub MayStop : State → (ℕ → Bool) → ℕ → Option Parts → List SheetKept → List SheetKept → Type 0
MayStop book searching sheet (Some parts) before after = Stops (book_of book) searching sheet parts before after
MayStop book searching sheet None before after = after ≡ before

-- what stands of the tables after an answer, and after want of memory
abbrev pub SettlesForms : State → (ℕ → Bool) → ℕ → Result Declared NoModel → List SheetKept → List SheetKept → Type 0
SettlesForms book searching sheet (Err none.Memory) before after = MayStop book searching sheet (parts_in book sheet) before after
SettlesForms book searching sheet _ before after = AreSettled book searching sheet (parts_in book sheet) before after

-- no step where the names have a fault, and else at most one for each place that wasn't settled
abbrev pub CountsFew : State → List SheetKept → ℕ → Option Parts → ℕ → Type 0
CountsFew book tables sheet (Some parts) steps = MakesFew (book_of book) (all_forms tables) sheet parts steps
CountsFew book tables sheet None steps = steps ≡ 0

-- ---- cells in them lie on the sheets
abbrev pub StopIsListed : State → NoModel → Type 0
StopIsListed book (none.Refused a) = CanBeSaid book.sheets a
StopIsListed book none.Memory = ⊤
