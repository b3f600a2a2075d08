-- What inner contracts cite: the first mark of a list, and what the answer of a model says of its sheet.
use Rattle.std.specs.Prelude.{◌≡◌, ◌<◌, ◌≤◌, ℕ, Bool, true, List, length, Option, Some, None, ⊤}
use Rattle.optimality.specs.Optimal.{Infeasible, Unbounded}
use Rattle.cell_refs.specs.declared.cell.Cell.{Cell}
use Rattle.linear_models.specs.Model.{is_whole_at}
use Rattle.sensitivity.specs.declared.answer.PriceAnswer.{PriceAnswer}
use Rattle.sensitivity.specs.declared.answer.PriceAnswer.TheVariants as found
use Rattle.sensitivity.specs.declared.stop.PriceStop.{PriceStop}
use Rattle.sensitivity.specs.declared.stop.PriceStop.TheVariants as stop
use Rattle.workbook.specs.State.{State}
use Rattle.sheet_problems.specs.SheetProblem.{problem_in}
use Rattle.sheet_linear_model.specs.Prepared.{Prepared}
use Rattle.sheet_prices.specs.Answers.{IsFirstWhole}
use Rattle.sheet_prices.specs.Prices.{ArePricesOf, lines_of}

-- the first of the cells to be decided that is to be whole, or that there is none
abbrev pub IsFirst : List Cell → List Bool → Option Cell → Type 0
IsFirst decisions marks (Some c) = IsFirstWhole decisions marks c
IsFirst decisions marks None = (k : ℕ) → is_whole_at marks k ≡ true → ⊥

-- there are prices for the numbers of the rows, and a row without one is among them
abbrev pub FitsNumbers : List ℕ → PriceAnswer → Type 0
FitsNumbers numbers (found.Best value prices) = length numbers ≤ length prices.items
FitsNumbers numbers found.Infeasible = ⊤
FitsNumbers numbers found.Unbounded = ⊤

abbrev pub StopFitsNumbers : List ℕ → PriceStop → Type 0
StopFitsNumbers numbers (stop.WideRange place) = place < length numbers
StopFitsNumbers numbers _ = ⊤

-- what each answer of the model says of the sheet
abbrev pub SheetHasPrices : State → Prepared → PriceAnswer → Type 0
SheetHasPrices book p (found.Best value prices) = ArePricesOf book p.statement value (lines_of p prices.items)
SheetHasPrices book p found.Infeasible = Infeasible (problem_in book p.statement)
SheetHasPrices book p found.Unbounded = Unbounded (problem_in book p.statement)
