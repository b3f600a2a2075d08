use Rattle.optimality.proofs.Examples as laws
use Rattle.optimality.proofs.three_are_numbered.Goals as goal

pub returns : goal.returns
returns c = laws.numbered_three
