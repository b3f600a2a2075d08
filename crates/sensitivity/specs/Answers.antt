-- What the prices of a model are, as the run of its standard program ends.
use Rattle.std.specs.Prelude.{◌≡◌, ◌⊎◌, ◌<◌, ◌+◌, ℕ, ⊤, Result, Ok, Err, MatchResult}
use Rattle.fractions.specs.Vectors.{at}
use Rattle.linear_models.specs.Model.{Model}
use Rattle.dictionaries.specs.Dictionary.{Dictionary, first_of_program}
use Rattle.dictionaries.specs.Bland.{NextPivot, IsBestEnd, IsInfeasibleEnd, IsUnboundedEnd}
use Rattle.dictionaries.specs.Run.{Leads}
use Rattle.simplex.specs.Solved.{IsWidePivot}
use Rattle.model_prices.specs.Prices.{program_of, value_of_model}
use Rattle.sensitivity.specs.Prices.{ArePrices}
use Rattle.simplex.specs.declared.answer.LpAnswer.{LpAnswer}
use Rattle.simplex.specs.declared.answer.LpAnswer.TheVariants as found
use Rattle.sensitivity.specs.declared.answer.PriceAnswer.{PriceAnswer}
use Rattle.sensitivity.specs.declared.answer.PriceAnswer.TheVariants as answers
use Rattle.sensitivity.specs.declared.stop.PriceStop.{PriceStop}
use Rattle.sensitivity.specs.declared.stop.PriceStop.TheVariants as stops

-- the best value with the price of each row, or how else the run has ended
abbrev pub IsAnswer : Model → Dictionary → PriceAnswer → Type 0
IsAnswer m d (answers.Best value prices) = IsBestEnd d × (value ≡ value_of_model m d) × ArePrices m d (Ok prices.items)
IsAnswer m d answers.Infeasible = IsInfeasibleEnd d
IsAnswer m d answers.Unbounded = (c : ℕ) × IsUnboundedEnd d c

-- a pivot that isn't narrow, no unit for the next one, or a row of which a sum or quotient isn't narrow
abbrev pub IsStop : Model → Dictionary → ℕ → PriceStop → Type 0
IsStop m d left (stops.WidePivot basis leaving entering) = (0 < left) × IsWidePivot d basis.items leaving entering
IsStop m d left stops.Spent = (left ≡ 0) × ((r : ℕ) × (c : ℕ) × NextPivot d r c)
IsStop m d left (stops.WideRange place) = IsBestEnd d × ArePrices m d (Err place)
IsStop m d left stops.Memory = ⊤

-- a best value is the constant of the last objective
abbrev pub BestValueIs : Dictionary → LpAnswer → Type 0
BestValueIs d (found.Best point value multipliers) = value ≡ at d.objective 0
BestValueIs d (found.Infeasible multipliers) = ⊤
BestValueIs d (found.Unbounded point way) = ⊤

-- ---- with so many units
-- the first of them opens the program, and each further one that is taken makes a pivot of its run, where the last dictionary answers or stops
pub record EndsRun (m : Model) (units left : ℕ) (result : Result PriceAnswer PriceStop) : Type 0 where
  pub last : Dictionary
  pub pivots : ℕ
  pub run : Leads pivots (first_of_program (program_of m)) last
  pub taken : pivots + 1 + left ≡ units
  pub end : MatchResult result (IsAnswer m last) (IsStop m last left)

-- there is none to open it
pub record IsSpentBefore (units left : ℕ) (result : Result PriceAnswer PriceStop) : Type 0 where
  pub none : units ≡ 0
  pub kept : left ≡ 0
  pub spent : result ≡ Err stops.Spent

abbrev pub IsPriced : Model → ℕ → ℕ → Result PriceAnswer PriceStop → Type 0
IsPriced m units left result = IsSpentBefore units left result ⊎ EndsRun m units left result
