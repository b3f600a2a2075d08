use Rattle.fractions.proofs.Floor.{floor_is_greatest}
use Rattle.fractions.proofs.floor_is_greatest.Goals as goal

pub returns : goal.returns
returns c = floor_is_greatest
