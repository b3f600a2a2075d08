use Rattle.std.proofs.Common.{ap, arith, subst}
use Rattle.opt_certificate.specs.Nodes.{HasNarrowFloor}
use Rattle.opt_certificate.proofs.Wholes.{read_back}
use Rattle.opt_certificate.specs.Trees.{node_of}
use Rattle.opt_certificate.proofs.Steps.{popped_sized, split_within, stepped, split_parts}
use Rattle.opt_certificate.proofs.walk.step.Goals as goal

pub push_parts-requires-clause-least : goal.push_parts-requires-clause-least
push_parts-requires-clause-least c =
    let j = rw c.if-not-branch.false at c.in_ok-node_proves.ensures in
    let s = popped_sized c.args.of.now _ _ c.in-Some.within c.in-Some.ensures.items c.requires.sized in
    let k = split_within c.args.of.now c.args.most c.in-Some.within (node_of c.args.node.now) c.in-Split.decision c.in-Split.floor c.in-Split.field-2 c.in-Split.field-3 (ap node_of c.in-Split.is) j.0 in
    omega (arith, k, s.least)

pub push_parts-requires-clause-greatest : goal.push_parts-requires-clause-greatest
push_parts-requires-clause-greatest c =
    let j = rw c.if-not-branch.false at c.in_ok-node_proves.ensures in
    let s = popped_sized c.args.of.now _ _ c.in-Some.within c.in-Some.ensures.items c.requires.sized in
    let k = split_within c.args.of.now c.args.most c.in-Some.within (node_of c.args.node.now) c.in-Split.decision c.in-Split.floor c.in-Split.field-2 c.in-Split.field-3 (ap node_of c.in-Split.is) j.0 in
    omega (arith, k, s.greatest)

pub returns-in-Split : goal.returns-in-Split
returns-in-Split c = λ rest box e.
    let j = rw c.if-not-branch.false at c.in_ok-node_proves.ensures in
    let z = subst HasNarrowFloor (ap node_of c.in-Split.is) c.requires.floor in
    let b = rw (read_back c.in-Split.floor z.0) at c.in_ok-push_parts-in-Split.ensures in
    stepped c.args.of.now c.args.most c.args.boxes.now.items c.pop.new.self.items rest c.push_parts.new.boxes.items c.in-Some.within box (node_of c.args.node.now) c.in-Some.ensures.items e j
    (split_parts c.pop.new.self.items c.push_parts.new.boxes.items c.in-Some.within (node_of c.args.node.now) c.in-Split.decision c.in-Split.floor c.in-Split.field-2 c.in-Split.field-3 (ap node_of c.in-Split.is) b)
