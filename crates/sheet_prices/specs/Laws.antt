-- A row of a sheet with its right side moved is a row of its linear model in relation to another number than 0.
use Rattle.std.specs.Prelude.{◌≡◌, ◌<◌, ℕ, length, Some, slice_index}
use Rattle.fractions.specs.Rational.{ℚ}
use Rattle.optimality.specs.Laws.{Agree}
use Rattle.optimality.specs.Optimal.{Infeasible, Unbounded}
use Rattle.cell_refs.specs.declared.cell.Cell.{Cell}
use Rattle.linear_models.specs.Model.{problem_of}
use Rattle.model_prices.specs.Prices.{BestIs}
use Rattle.model_prices.specs.Rows.{problem_against}
use Rattle.workbook.specs.State.{State}
use Rattle.sheet_problems.specs.SheetProblem.{problem_in}
use Rattle.sheet_linear_model.specs.Lines.{numbers_of}
use Rattle.sheet_linear_model.specs.Prepared.{IsPrepared, Prepared}
use Rattle.sensitivity.specs.Truth.{PricesAreTrue}
use Rattle.sensitivity.specs.declared.answer.PriceAnswer.{PriceAnswer}
use Rattle.sheet_prices.specs.Inner.{SheetHasPrices}
use Rattle.sheet_prices.specs.Raised.{problem_raised}

-- the row at the place of the model is the row of that number of the sheet
pub record IsRowAt (p : Prepared) (place number : ℕ) : Type 0 where
  pub within : place < length (numbers_of p)
  pub number_is : slice_index (numbers_of p) place ≡ number

-- the sheet with the right side of that row greater by d is the model with the form of that row in relation to d
abbrev pub RaisedRowsAgree : Type 0
RaisedRowsAgree = (book : State) (sheet : ℕ) (p : Prepared) (c : Cell) (place number : ℕ) (d : ℚ) → IsPrepared book sheet p → p.statement.objective ≡ Some c → IsRowAt p place number
    → Agree (problem_raised book p.statement number d) (problem_against p.model place d)

-- so its best value is that of the model, and it is reached
abbrev pub BestValuesAgree : Type 0
BestValuesAgree = (book : State) (sheet : ℕ) (p : Prepared) (c : Cell) (place number : ℕ) (d v : ℚ) → IsPrepared book sheet p → p.statement.objective ≡ Some c → IsRowAt p place number
    → BestIs (problem_against p.model place d) v → BestIs (problem_raised book p.statement number d) v

-- with no row moved, what is true of the model is true of the sheet
pub record AnswersAreTheSheets : Type 0 where
  pub best : (book : State) (sheet : ℕ) (p : Prepared) (c : Cell) (v : ℚ) → IsPrepared book sheet p → p.statement.objective ≡ Some c → BestIs (problem_of p.model) v → BestIs (problem_in book p.statement) v
  pub infeasible : (book : State) (sheet : ℕ) (p : Prepared) → IsPrepared book sheet p → Infeasible (problem_of p.model) → Infeasible (problem_in book p.statement)
  pub unbounded : (book : State) (sheet : ℕ) (p : Prepared) → IsPrepared book sheet p → Unbounded (problem_of p.model) → Unbounded (problem_in book p.statement)

-- what is true of the prices of its model is true of the sheet
abbrev pub PricesAreTheSheets : Type 0
PricesAreTheSheets = (book : State) (sheet : ℕ) (p : Prepared) (c : Cell) (a : PriceAnswer) → IsPrepared book sheet p → p.statement.objective ≡ Some c → PricesAreTrue p.model a → SheetHasPrices book p a
