use Rattle.certificate_texts.proofs.Certs.{cert_made, nodes_are_lines, whole_cert}
use Rattle.certificate_texts.proofs.read.cert_of.Goals as goal

pub tree_of-requires-clause-lines : goal.tree_of-requires-clause-lines
tree_of-requires-clause-lines c = nodes_are_lines c.args.draft c.requires

pub tree_of-requires-clause-tree : goal.tree_of-requires-clause-tree
tree_of-requires-clause-tree c = let w = whole_cert c.args.draft c.requires in (w.cert.tree, w.nodes)

pub returns : goal.returns
returns c =
    let w = whole_cert c.args.draft c.requires in
    cert_made c.args.draft _ c.requires (c.in_ok-tree.ensures w.cert.tree w.nodes) c.claim-claim.ensures c.value_told-value.ensures
