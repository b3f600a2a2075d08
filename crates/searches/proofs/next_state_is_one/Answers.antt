use Rattle.searches.proofs.Determined.{one_next_state}
use Rattle.searches.proofs.next_state_is_one.Goals as goal

pub returns : goal.returns
returns c = one_next_state
