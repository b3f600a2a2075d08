-- What the best value and the prices say of the model (Chvátal, Linear Programming, chapter 5).
use Rattle.std.specs.Prelude.{◌≡◌, List, length, map, All}
use Rattle.std.specs.List.{range_with_len}
use Rattle.fractions.specs.Rational.{ℚ, ◌+ℚ◌, ◌*ℚ◌}
use Rattle.optimality.specs.Optimal.{Infeasible, Unbounded}
use Rattle.linear_models.specs.Model.{Model, problem_of}
use Rattle.price_laws.specs.Ranges.{IsWithin}
use Rattle.model_prices.specs.Rows.{problem_against}
use Rattle.model_prices.specs.Prices.{BestIs}
use Rattle.sensitivity.specs.declared.row_prices.Price.{Price}
use Rattle.sensitivity.specs.declared.answer.PriceAnswer.{PriceAnswer}
use Rattle.sensitivity.specs.declared.answer.PriceAnswer.TheVariants.{Best, Infeasible as Without, Unbounded as Endless}

-- where the row's form is in its relation to a number of its range in place of 0, the best value is greater by the price for each unit
abbrev pub IsTruePrice : Model → ℚ → Price → Type 0
IsTruePrice m value p = (d : ℚ) → IsWithin p.low p.high d → BestIs (problem_against m p.row d) (value +ℚ p.price *ℚ d)

-- the value is the best one, and the prices are those of the rows, in their order
pub record AreTruePrices (m : Model) (value : ℚ) (prices : List Price) : Type 0 where
  pub best : BestIs (problem_of m) value
  pub rows : map (λ (p : Price). p.row) prices ≡ range_with_len 0 (length m.rows)
  pub hold : All (IsTruePrice m value) prices

-- what each answer says
abbrev pub PricesAreTrue : Model → PriceAnswer → Type 0
PricesAreTrue m (Best value prices) = AreTruePrices m value prices.items
PricesAreTrue m Without = Infeasible (problem_of m)
PricesAreTrue m Endless = Unbounded (problem_of m)
