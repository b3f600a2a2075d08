use Rattle.linear_programs.proofs.LeafProofs.{leaf_proofs_hold}
use Rattle.linear_programs.proofs.leaf_proofs_hold.Goals as goal

pub returns : goal.returns
returns c = leaf_proofs_hold
