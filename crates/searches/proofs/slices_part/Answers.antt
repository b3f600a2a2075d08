use Rattle.searches.proofs.Slices.{slices_part}
use Rattle.searches.proofs.slices_part.Goals as goal

pub returns : goal.returns
returns c = slices_part
