use Rattle.std.proofs.Common.{◌≡◌, ◌∙◌, ◌+◌, ◌++◌, ◌∷◌, [], All, ap, arith, rules, subst, sym, take}
use Rattle.std.proofs.lemmas.Grind.{common_steps}
use Rattle.std.proofs.lemmas.List.{take_all, take_more}
use Rattle.std.proofs.lemmas.List.Elements.{All-push}
use Rattle.opt_certificate.proofs.Reading.{floor_at}
use Rattle.opt_certificate.specs.Trees.{node_of}
use Rattle.opt_certificate.specs.declared.tree.TreeNode.{TreeNode}
use Rattle.certificate_texts.specs.Fits.{NodeFits}
use Rattle.certificate_texts.proofs.write.write_nodes.Goals as goal

abbrev fits : TreeNode → Type 0
fits node = NodeFits (node_of node)

pub write_node-requires : goal.write_node-requires
write_node-requires c = floor_at c.args.nodes.now c.loop-node.node-index c.node-item.result c.loop-node-test.true c.node-item.is c.requires

pub loop-node-preserved : goal.loop-node-preserved
loop-node-preserved c =
    let xs = c.args.nodes.now in
    let i = c.loop-node.node-index in
    let x = c.node-item.result in
    let more : take (i + 1) xs ≡ take i xs ++ x ∷ [] = take_more xs i x c.loop-node-test.true ∙ ap (λ y. take i xs ++ y ∷ []) (sym c.node-item.is) in
    record {
      written = first_of (search rules, grind (arith, common_steps));
      fits = subst (All fits) (sym more) (All-push fits (take i xs) x c.loop-node.invariant.fits c.in_ok-write_node.ensures.fits);
    }

pub returns-clause-fits : goal.returns-clause-fits
returns-clause-fits c =
    subst (All fits) (take_all c.loop-node.node-index c.args.nodes.now (omega (arith, c.loop-node-test.false))) c.loop-node.invariant.fits
