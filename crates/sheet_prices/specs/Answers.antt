-- What is answered where the prices of a sheet's rows are asked for.
use Rattle.std.specs.Prelude.{◌≡◌, ◌<◌, ℕ, Bool, true, false, List, [], Some, Result, Ok, Err, slice_get, ⊤}
use Rattle.cell_refs.specs.declared.cell.Cell.{Cell}
use Rattle.commands.specs.declared.answer.Answer.{Answer}
use Rattle.commands.specs.declared.answer.Answer.TheVariants as answer
use Rattle.linear_models.specs.Model.{is_whole_at}
use Rattle.model_prices.specs.Prices.{IsAim, IsContinuous}
use Rattle.sensitivity.specs.Answers.{IsPriced}
use Rattle.sensitivity.specs.declared.answer.PriceAnswer.{PriceAnswer}
use Rattle.sensitivity.specs.declared.answer.PriceAnswer.TheVariants as found
use Rattle.sensitivity.specs.declared.stop.PriceStop.{PriceStop}
use Rattle.sensitivity.specs.declared.stop.PriceStop.TheVariants as stop
use Rattle.solver_names.specs.Statement.{Statement}
use Rattle.sheet_linear_model.specs.Lines.{numbers_of}
use Rattle.sheet_linear_model.specs.Prepared.{Prepared}
use Rattle.sheet_prices.specs.Prices.{lines_of}

-- there is an objective, and it is to be greatest or least
pub record HasAim (s : Statement) : Type 0 where
  pub cell : Cell
  pub objective : s.objective ≡ Some cell
  pub aim : IsAim s.goal

-- the first of the cells to be decided that is to be whole
pub record IsFirstWhole (decisions : List Cell) (marks : List Bool) (c : Cell) : Type 0 where
  pub place : ℕ
  pub is_it : slice_get decisions place ≡ Some c
  pub whole : is_whole_at marks place ≡ true
  pub first : (k : ℕ) → k < place → is_whole_at marks k ≡ false

-- no cell is to be whole, and with so many units, of which the first one opens it, the run of the model's standard program comes to this
pub record ComesTo (p : Prepared) (units : ℕ) (result : Result PriceAnswer PriceStop) : Type 0 where
  pub aim : HasAim p.statement
  pub continuous : IsContinuous p.model
  pub left : ℕ
  pub priced : IsPriced p.model units left result

-- how that is told: the price of each row of the sheet that is one of the model, or why there is none; all units are spent where they
-- aren't enough
abbrev pub Tells : Prepared → ℕ → Result PriceAnswer PriceStop → Answer → Type 0
Tells p units (Ok (found.Best value prices)) (answer.Prices lines) = (lines.value ≡ value) × (lines.rows.items ≡ lines_of p prices.items)
Tells p units (Ok found.Infeasible) answer.Infeasible = ⊤
Tells p units (Ok found.Unbounded) answer.Unbounded = ⊤
Tells p units (Err (stop.WidePivot basis leaves enters)) (answer.WidePivot path now_basis now_leaves now_enters) =
    (path.items ≡ []) × (now_basis.items ≡ basis.items) × (now_leaves ≡ leaves) × (now_enters ≡ enters)
Tells p units (Err stop.Spent) (answer.Budget n) = n ≡ units
Tells p units (Err (stop.WideRange place)) (answer.WideRange row) = slice_get (numbers_of p) place ≡ Some row
Tells p units _ _ = ⊥

-- without an objective that is to be greatest or least, with a cell that is to be whole, and else
abbrev pub Prices : Prepared → ℕ → Answer → Type 0
Prices p units answer.NoObjective = ¬ (HasAim p.statement)
Prices p units (answer.NotContinuous c) = HasAim p.statement × IsFirstWhole p.statement.decisions p.model.whole c
Prices p units a = (result : Result PriceAnswer PriceStop) × ComesTo p units result × Tells p units result a
