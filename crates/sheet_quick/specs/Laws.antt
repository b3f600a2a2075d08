-- What an open quick model is of the workbook as it is.
use Rattle.std.specs.Prelude.{◌≡◌, ℕ, List}
use Rattle.affine_forms.specs.Assigned.{assigned}
use Rattle.affine_forms.specs.Forms.{AffineForm}
use Rattle.cell_refs.specs.declared.cell.Cell.{Cell}
use Rattle.fractions.specs.Rational.{ℚ}
use Rattle.optimality.specs.Problem.{Assignment}
use Rattle.workbook.specs.Edits.{after_set}
use Rattle.workbook.specs.Kinds.{book_of}
use Rattle.workbook.specs.State.{State}
use Rattle.linear_models.specs.Conditions.{statement_of}
use Rattle.solver_names.specs.Sides.{sides_in}
use Rattle.form_needs.specs.FromSheetProblems.{HasForms, conditions_of}
use Rattle.form_needs.specs.FromSheetProblems.{ModelIsTheSheet}
use Rattle.form_needs.specs.FromSheetProblems.{problem_in}
use Rattle.open_forms.specs.FromSheetLinearModel.{IsPrepared, Prepared}
use Rattle.parameter_laws.specs.Laws.{IsTheProblem}
use Rattle.quick_solve.specs.Quick.{stated_at}
use Rattle.sheet_quick.specs.Giving.{IsGivenTo, with_value}
use Rattle.write_back.specs.Writing.{with_numbers}
use Rattle.sheet_quick.specs.Opened.{IsOpen, SheetQuick, model_now}

-- whatever values the parameters hold, an assignment is permitted in the sheet exactly where it is a point of the model with these values, with
-- the same objective, and the answers are the same
abbrev pub QuickModelIsTheSheet : Type 0
QuickModelIsTheSheet = (book : State) (q : SheetQuick) → IsOpen book q → IsTheProblem (problem_in book q.statement) (model_now q)

-- the same as what is asked of every model of a sheet
abbrev pub QuickModelIsAModel : Type 0
QuickModelIsAModel = (book : State) (q : SheetQuick) → IsOpen book q → ModelIsTheSheet book q.statement (model_now q)

-- where the sheet has forms of its own, with them it states the same, so its rows are wide where those of the quick model are
abbrev pub SameStatement : Type 0
SameStatement =
    (book : State) (q : SheetQuick) (objective : AffineForm) (sides : List (AffineForm × AffineForm)) → IsOpen book q
    → HasForms (book_of book) (sides_in book q.statement.sheet) q.statement objective sides
    → statement_of (conditions_of q.statement) objective sides ≡ stated_at q.model (assigned q.values)

-- and where nothing of the sheet is refused and no row is wide, the quick model is its linear model
abbrev pub QuickModelIsTheLinearModel : Type 0
QuickModelIsTheLinearModel = (book : State) (q : SheetQuick) (p : Prepared) → IsOpen book q → IsPrepared book q.statement.sheet p → p.model ≡ model_now q

-- ---- what leaves it open
-- the text of a number that is put into a parameter
abbrev pub OpenOnceGiven : Type 0
OpenOnceGiven =
    (book : State) (q : SheetQuick) (cell : Cell) (text : List ℕ) (k : ℕ) (x : ℚ) → IsOpen book q → IsGivenTo q cell text k x
    → IsOpen (after_set book cell text) (with_value q k x)

-- numbers that are written into the decision cells
abbrev pub OpenOnceWritten : Type 0
OpenOnceWritten =
    (book : State) (q : SheetQuick) (numbers : Assignment) → IsOpen book q → IsOpen (with_numbers book q.statement.decisions numbers) q
