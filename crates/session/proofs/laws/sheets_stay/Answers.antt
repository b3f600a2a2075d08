use Rattle.session.proofs.Apart.{sheets_stay}
use Rattle.session.proofs.laws.sheets_stay.Goals as goal

pub returns : goal.returns
returns c = sheets_stay
