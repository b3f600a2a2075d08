use Rattle.opt_certificate.proofs.OneTree as laws
use Rattle.opt_certificate.proofs.nodes_list_one_tree.Goals as goal

pub returns : goal.returns
returns c = laws.listed_once
