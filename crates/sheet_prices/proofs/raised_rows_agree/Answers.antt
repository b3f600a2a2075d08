use Rattle.sheet_prices.proofs.Agreed.{raised_rows_agree}
use Rattle.sheet_prices.proofs.raised_rows_agree.Goals as goal

pub returns : goal.returns
returns c = raised_rows_agree
