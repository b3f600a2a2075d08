use Rattle.sheet_prices.proofs.Agreed.{best_values_agree}
use Rattle.sheet_prices.proofs.best_values_agree.Goals as goal

pub returns : goal.returns
returns c = best_values_agree
