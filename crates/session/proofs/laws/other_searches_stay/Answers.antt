use Rattle.session.proofs.Apart.{other_searches_stay}
use Rattle.session.proofs.laws.other_searches_stay.Goals as goal

pub returns : goal.returns
returns c = other_searches_stay
