use Rattle.searches.proofs.Slices.{slices_join}
use Rattle.searches.proofs.slices_join.Goals as goal

pub returns : goal.returns
returns c = slices_join
