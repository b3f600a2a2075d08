-- What is answered of the prices of a sheet's rows.
use Rattle.std.specs.Prelude.{◌≡◌, ℕ}
use Rattle.commands.specs.declared.answer.Answer.{Answer}
use Rattle.sheet_linear_model.specs.Prepared.{Prepared}
use Rattle.sheet_prices.specs.Answers.{Prices}
use Rattle.sheet_prices.specs.Prices.{IsTrueOf}
use Rattle.session.specs.Solves.{WithModel}
use Rattle.session.specs.States.{SessionState}

-- they are told by the sheet's model, with all units of the session's budget, and true of recalculation; nothing has changed
abbrev pub TellsPrices : SessionState → Prepared → Answer → SessionState → Type 0
TellsPrices before p a after = Prices p before.budget a × IsTrueOf before.book p.statement a × (after ≡ before)

-- or the sheet has no model
abbrev pub PricesSheet : SessionState → ℕ → Answer → SessionState → Type 0
PricesSheet before = WithModel (TellsPrices before) before
