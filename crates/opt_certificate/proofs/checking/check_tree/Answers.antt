use Rattle.std.proofs.Common.{◌∙◌, length, sym}
use Rattle.std.proofs.lemmas.Bool.{eqb-true, eqb-false}
use Rattle.opt_certificate.proofs.Checked.{no_tree, tree_checked, no_nodes, some_nodes}
use Rattle.opt_certificate.proofs.checking.check_tree.Goals as goal

pub returns-then-is_empty : goal.returns-then-is_empty
returns-then-is_empty c = λ t l. no_tree c.args.of.now c.args.most c.args.tree.now t (no_nodes c.nodes-nodes.result.now c.args.tree.now c.nodes-nodes.ensures.nodes (eqb-true (length c.nodes-nodes.result.now) 0 (sym c.if-is_empty.ensures))) l

pub returns : goal.returns
returns c = λ t l.
    tree_checked c.args.of.now c.args.most c.args.tree.now t c.nodes_prove.result (some_nodes c.nodes-nodes.result.now c.args.tree.now c.nodes-nodes.ensures.nodes (eqb-false (length c.nodes-nodes.result.now) 0 (sym c.if-is_empty.ensures))) l
    (λ u e. c.nodes_prove.ensures u (c.nodes-nodes.ensures.nodes ∙ e))
