use Rattle.searches.proofs.Once.{no_node_is_opened_twice}
use Rattle.searches.proofs.no_node_is_opened_twice.Goals as goal

pub returns : goal.returns
returns c = no_node_is_opened_twice
