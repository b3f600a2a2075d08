use Rattle.sheet_prices.proofs.Agreed.{answers_are_the_sheets}
use Rattle.sheet_prices.proofs.answers_are_the_sheets.Goals as goal

pub returns : goal.returns
returns c = answers_are_the_sheets
