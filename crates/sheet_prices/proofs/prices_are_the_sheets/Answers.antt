use Rattle.sheet_prices.proofs.Priced.{prices_are_the_sheets}
use Rattle.sheet_prices.proofs.prices_are_the_sheets.Goals as goal

pub returns : goal.returns
returns c = prices_are_the_sheets
