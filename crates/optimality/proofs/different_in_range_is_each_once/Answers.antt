use Rattle.optimality.proofs.Permutations as laws
use Rattle.optimality.proofs.different_in_range_is_each_once.Goals as goal

pub returns : goal.returns
returns c = laws.different_in_range_is_each_once
