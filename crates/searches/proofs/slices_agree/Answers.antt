use Rattle.searches.proofs.Slices.{slices_agree}
use Rattle.searches.proofs.slices_agree.Goals as goal

pub returns : goal.returns
returns c = slices_agree
