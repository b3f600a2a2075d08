use Rattle.session.proofs.Counting.{slices_count_on}
use Rattle.session.proofs.laws.slices_count_on.Goals as goal

pub returns : goal.returns
returns c = slices_count_on
