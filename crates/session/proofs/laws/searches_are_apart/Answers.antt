use Rattle.session.proofs.Apart.{searches_are_apart}
use Rattle.session.proofs.laws.searches_are_apart.Goals as goal

pub returns : goal.returns
returns c = searches_are_apart
