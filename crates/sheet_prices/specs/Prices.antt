-- What the prices of a sheet's rows are, and what an answer that has them says of the sheet.
use Rattle.std.specs.Prelude.{ℕ, List, map, All, zip, ⊤}
use Rattle.fractions.specs.Rational.{ℚ, ◌+ℚ◌, ◌*ℚ◌}
use Rattle.optimality.specs.Optimal.{Infeasible, Unbounded}
use Rattle.commands.specs.declared.answer.Answer.{Answer}
use Rattle.commands.specs.declared.answer.Answer.TheVariants as answer
use Rattle.commands.specs.declared.price_lines.PriceLine.{PriceLine}
use Rattle.price_laws.specs.Ranges.{IsWithin}
use Rattle.model_prices.specs.Prices.{BestIs}
use Rattle.sensitivity.specs.declared.row_prices.Price.{Price}
use Rattle.workbook.specs.State.{State}
use Rattle.solver_names.specs.Statement.{Statement}
use Rattle.sheet_problems.specs.SheetProblem.{problem_in}
use Rattle.sheet_linear_model.specs.Lines.{numbers_of}
use Rattle.sheet_linear_model.specs.Prepared.{Prepared}
use Rattle.sheet_prices.specs.Raised.{problem_raised}

-- the price of each row of the model, with the number that the row has on the sheet
abbrev pub line_of : ℕ × Price → PriceLine
line_of row = record { row = row.0; price = row.1.price; low = row.1.low; high = row.1.high }

abbrev pub lines_of : Prepared → List Price → List PriceLine
lines_of p prices = map line_of (zip (numbers_of p) prices)

-- ---- what they say of the sheet
-- with the right side of the row of that number greater by any number of the range, the best value is greater by so many times the
-- price, and it is reached
abbrev pub IsPriceOf : State → Statement → ℚ → PriceLine → Type 0
IsPriceOf book s value line = (d : ℚ) → IsWithin line.low line.high d → BestIs (problem_raised book s line.row d) (value +ℚ line.price *ℚ d)

-- the value is the best one of the sheet, and each line has the price of its row
pub record ArePricesOf (book : State) (s : Statement) (value : ℚ) (lines : List PriceLine) : Type 0 where
  pub best : BestIs (problem_in book s) value
  pub hold : All (IsPriceOf book s value) lines

-- what an answer says of it
abbrev pub IsTrueOf : State → Statement → Answer → Type 0
IsTrueOf book s (answer.Prices lines) = ArePricesOf book s lines.value lines.rows.items
IsTrueOf book s answer.Infeasible = Infeasible (problem_in book s)
IsTrueOf book s answer.Unbounded = Unbounded (problem_in book s)
IsTrueOf book s _ = ⊤
