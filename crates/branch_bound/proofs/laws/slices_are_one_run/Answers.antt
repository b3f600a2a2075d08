use Rattle.branch_bound.proofs.Slices.{slices_are_one_run}
use Rattle.branch_bound.proofs.laws.slices_are_one_run.Goals as goal

pub returns : goal.returns
returns c = slices_are_one_run
