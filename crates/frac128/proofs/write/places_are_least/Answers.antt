use Rattle.frac128.proofs.Printing.{places_are_least}
use Rattle.frac128.proofs.write.places_are_least.Goals as goal

pub returns : goal.returns
returns c = places_are_least
