-- Quick models of sheets that are open: whatever values the parameters hold by now, the forms are those of the workbook at first.
use Rattle.std.specs.Prelude.{◌≡◌, ◌<◌, ◌≤◌, ◌+◌, List, All, length, None, Ok}
use Rattle.fractions.specs.Rational.{ℚ}
use Rattle.cell_refs.specs.declared.cell.Cell.{Cell}
use Rattle.affine_forms.specs.Assigned.{assigned}
use Rattle.workbook.specs.Kinds.{book_of}
use Rattle.cell_refs.specs.Listed.{IsListed}
use Rattle.workbook.specs.State.{State}
use Rattle.cell_refs.specs.declared.adj.TheConstants.{DECISIONS}
use Rattle.form_extraction.specs.Places.{numbered_in}
use Rattle.linear_models.specs.Linear.{linear}
use Rattle.linear_models.specs.Model.{Model}
use Rattle.solver_names.specs.Answers.{statement_of}
use Rattle.solver_names.specs.Sides.{sides_in}
use Rattle.solver_names.specs.Statement.{Statement}
use Rattle.solver_names.specs.Stated.{statement_in}
use Rattle.form_needs.specs.FromSheetProblems.{HasForms, conditions_of}
use Rattle.named_cells.specs.FromStatementLaws.{AreDistinct}
use Rattle.parameter_problems.specs.Opened.{HoldsValues, opened}
use Rattle.quick_solve.specs.Quick.{Quick, stated_at}
use Rattle.sheet_quick.specs.declared.quick.SheetQuick.{SheetQuick as Declared}

-- what the names state, the parameters with their values, and the forms over decision cells and parameters
pub record SheetQuick : Type 0 where
  pub statement : Statement
  pub parameters : List Cell
  pub values : List ℚ
  pub model : Quick

abbrev pub quick_of : Declared → SheetQuick
quick_of q = record { statement = statement_of q.statement; parameters = q.parameters; values = q.values.items; model = q.model }

-- the workbook at first: its names state this, and over decision cells and parameters its sides and its objective have these forms
pub record HasOpenForms (first : State) (q : SheetQuick) : Type 0 where
  pub listed : q.statement.sheet < length first.sheets
  pub stated : statement_in first q.statement.sheet ≡ Ok q.statement
  pub forms : HasForms (book_of first) (sides_in first q.statement.sheet) (opened q.statement q.parameters) q.model.objective q.model.sides
  pub conditions : q.model.conditions ≡ conditions_of q.statement
  pub count : q.model.count ≡ length q.parameters

-- the parameters are cells on the sheets, each once and none to be decided, and each has a value
pub record HasParameters (book : State) (q : SheetQuick) : Type 0 where
  pub few : length q.statement.decisions + length q.parameters ≤ DECISIONS
  pub listed : All (IsListed book.sheets) q.parameters
  pub distinct : AreDistinct q.parameters
  pub others : All (λ c. numbered_in q.statement.decisions c ≡ None) q.parameters
  pub each : length q.values ≡ length q.parameters

-- since then the names and the sheets are as they were, the parameters hold their values, and no cell other than these and the decision cells
-- has changed
pub record IsOpen (book : State) (q : SheetQuick) : Type 0 where
  pub first : State
  pub sheets : book.sheets ≡ first.sheets
  pub names : book.names ≡ first.names
  pub forms : HasOpenForms first q
  pub parameters : HasParameters book q
  pub holds : HoldsValues (book_of first) q.statement.decisions q.parameters (assigned q.values) (book_of book)

-- the linear model of the forms with the values put in
abbrev pub model_now : SheetQuick → Model
model_now q = linear (stated_at q.model (assigned q.values))
