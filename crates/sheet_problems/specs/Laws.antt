-- The problem of a sheet depends on the numbers of its decision cells alone, and is that of the linear model of its forms.
use Rattle.std.specs.Prelude.{◌≡◌, ◌↔◌, ◌<◌, ℕ, List, length, Some, None, Ok}
use Rattle.fractions.specs.Vectors.{at}
use Rattle.optimality.specs.Problem.{Assignment, greatest}
use Rattle.optimality.specs.Optimal.{Permitted}
use Rattle.optimality.specs.Laws.{Agree, SameAnswers}
use Rattle.cell_refs.specs.declared.cell.Cell.{Cell}
use Rattle.affine_forms.specs.Forms.{AffineForm}
use Rattle.linear_models.specs.Agreement.{Fits}
use Rattle.linear_models.specs.Conditions.{statement_of}
use Rattle.linear_models.specs.Linear.{linear}
use Rattle.linear_models.specs.Model.{Model, IsPoint}
use Rattle.linear_models.specs.Model as model
use Rattle.linear_models.specs.Statement.{stated}
use Rattle.form_extraction.specs.FromRecalculation.{Book, Overriding}
use Rattle.workbook.specs.Kinds.{book_of}
use Rattle.workbook.specs.State.{State}
use Rattle.cell_refs.specs.declared.place.Place.{Place}
use Rattle.cell_refs.specs.declared.place.Place.TheVariants as place
use Rattle.solver_names.specs.Sides.{sides_in}
use Rattle.solver_names.specs.Statement.{Statement}
use Rattle.solver_names.specs.Stated.{statement_in}
use Rattle.sheet_problems.specs.Forms.{HasForms, conditions_of}
use Rattle.form_extraction.specs.Places.{numbered_in}
use Rattle.sheet_problems.specs.Places.{Sides, value_at, worth_at}
use Rattle.sheet_problems.specs.SheetProblem.{problem_of, problem_in}

-- ---- numbers
-- equal numbers in the place of each cell give equal values
abbrev pub EqualNumbersGiveEqualValues : Type 0
EqualNumbersGiveEqualValues = (book : Book) (sides : Sides) (over under : Overriding) → ((c : Cell) → over c ≡ under c) → (p : Place) → value_at book sides over p ≡ value_at book sides under p

-- assignments with equal numbers for the decision cells are worth the same at every place
abbrev pub DependsOnDecisions : Type 0
DependsOnDecisions = (book : Book) (sides : Sides) (decisions : List Cell) (a b : Assignment) → ((j : ℕ) → j < length decisions → at a j ≡ at b j) → (p : Place)
    → worth_at book sides decisions p a ≡ worth_at book sides decisions p b

-- a decision cell is worth its number
abbrev pub DecisionIsItsNumber : Type 0
DecisionIsItsNumber = (book : Book) (sides : Sides) (decisions : List Cell) (c : Cell) (j : ℕ) → numbered_in decisions c ≡ Some j → (a : Assignment)
    → worth_at book sides decisions (place.Cell c) a ≡ Some (at a j)

-- ---- models
-- the problem of a sheet is the one that its conditions state with the forms of its places
abbrev pub FormsStateTheProblem : Type 0
FormsStateTheProblem = (book : Book) (sides : Sides) (s : Statement) (objective : AffineForm) (rows : List (AffineForm × AffineForm))
    → (s.objective ≡ None → s.goal ≡ greatest) → HasForms book sides s objective rows
    → problem_of book sides s ≡ stated (statement_of (conditions_of s) objective rows)

-- the forms of a sheet's statement fit its conditions
abbrev pub FormsFit : Type 0
FormsFit = (book : State) (sheet : ℕ) (s : Statement) (objective : AffineForm) (rows : List (AffineForm × AffineForm)) → statement_in book sheet ≡ Ok s
    → HasForms (book_of book) (sides_in book s.sheet) s objective rows → Fits (conditions_of s) objective rows

-- the model permits what the sheet permits, with the same objective where there is one, and its answers are those of the sheet
pub record ModelIsTheSheet (book : State) (s : Statement) (m : Model) : Type 0 where
  pub permitted : (a : Assignment) → Permitted (problem_in book s) a ↔ IsPoint m a
  pub answers : SameAnswers (problem_in book s) (model.problem_of m)
  pub objective : (c : Cell) → s.objective ≡ Some c → Agree (problem_in book s) (model.problem_of m)

-- so does the linear model of the forms of a sheet's statement
abbrev pub LinearModelIsTheSheet : Type 0
LinearModelIsTheSheet = (book : State) (sheet : ℕ) (s : Statement) (objective : AffineForm) (rows : List (AffineForm × AffineForm)) → statement_in book sheet ≡ Ok s
    → HasForms (book_of book) (sides_in book s.sheet) s objective rows → ModelIsTheSheet book s (linear (statement_of (conditions_of s) objective rows))
