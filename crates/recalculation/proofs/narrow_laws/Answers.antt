use Rattle.recalculation.proofs.Knowns.{known_enough, known_is, known_right}
use Rattle.recalculation.proofs.narrow_laws.Goals as goal

pub returns : goal.returns
returns c = record { bound = known_enough; equation = known_is; value = known_right }
