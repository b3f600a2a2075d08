use Rattle.optimality.proofs.Answers as laws
use Rattle.optimality.proofs.one_best_value.Goals as goal

pub returns : goal.returns
returns c = laws.one_best_value
