use Rattle.searches.proofs.Determined.{one_trail}
use Rattle.searches.proofs.trail_is_one.Goals as goal

pub returns : goal.returns
returns c = one_trail
