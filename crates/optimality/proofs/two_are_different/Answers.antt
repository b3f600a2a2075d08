use Rattle.optimality.proofs.Examples as laws
use Rattle.optimality.proofs.two_are_different.Goals as goal

pub returns : goal.returns
returns c = laws.different_two
