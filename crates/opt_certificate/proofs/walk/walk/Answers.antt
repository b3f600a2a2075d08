use Rattle.std.proofs.Common.{◌≡◌, ℕ, suc, ◌+◌, sym, subst, arith, map, List}
use Rattle.linear_models.specs.Box.{Box}
use Rattle.opt_certificate.specs.Checks.{NodeIsNarrow, NodeProves}
use Rattle.opt_certificate.specs.Nodes.{boxed}
use Rattle.opt_certificate.specs.Trees.{node_of}
use Rattle.opt_certificate.proofs.Walks.{Walk, start, boxes_sized}
use Rattle.opt_certificate.proofs.Reading.{at_node, floor_at, some_wait, all_at, one_more, all_read}
use Rattle.opt_certificate.proofs.walk.walk.Goals as goal

pub loop-number-init : goal.loop-number-init
loop-number-init c = λ t e. record {
  walk = subst (λ (bs : List Box). Walk c.args.of.now (map node_of c.args.nodes.now) (boxed c.args.of.now.bounds t) 0 bs) (sym c.requires.start)
      (start c.args.of.now c.args.of.now.bounds t (map node_of c.args.nodes.now) e record { least = c.requires.valid.least; greatest = c.requires.valid.greatest });
  proves = λ k d h. absurd (omega arith);
  narrow = λ k d h. absurd (omega arith);
}

pub step-requires-clause-floor : goal.step-requires-clause-floor
step-requires-clause-floor c = floor_at c.args.nodes.now c.loop-number.number c.index-nodes-number.result (omega arith) c.index-nodes-number.is c.requires.floors

pub step-requires-clause-waits : goal.step-requires-clause-waits
step-requires-clause-waits c =
    let inv = c.loop-number.invariant c.requires.tree.0 c.requires.tree.1 in
    let t = at_node c.args.of.now c.args.nodes.now (boxed c.args.of.now.bounds c.requires.tree.0) c.loop-number.number c.loop-number.boxes.items c.index-nodes-number.result (omega arith) c.index-nodes-number.is inv.walk in
    some_wait c.loop-number.boxes.items t.rest t.box t.stack

pub step-requires-clause-sized : goal.step-requires-clause-sized
step-requires-clause-sized c =
    let inv = c.loop-number.invariant c.requires.tree.0 c.requires.tree.1 in
    boxes_sized c.args.of.now (map node_of c.args.nodes.now) (boxed c.args.of.now.bounds c.requires.tree.0) c.loop-number.number c.loop-number.boxes.items inv.walk

pub returns-in-Ok-false : goal.returns-in-Ok-false
returns-in-Ok-false c = λ t e h.
    let inv = c.loop-number.invariant t e in
    let p = at_node c.args.of.now c.args.nodes.now (boxed c.args.of.now.bounds t) c.loop-number.number c.loop-number.boxes.items c.index-nodes-number.result (omega arith) c.index-nodes-number.is inv.walk in
    let s = rw c.in-Ok-false.field-0-test at c.in-Ok-false.ensures in
    s p.rest p.box p.stack ((p.proves c.args.of.now c.args.most.now).0 (all_at (NodeProves c.args.of.now c.args.most.now) (boxed c.args.of.now.bounds t) c.loop-number.number p.here h p.element))

pub returns-in-Err-Wide : goal.returns-in-Err-Wide
returns-in-Err-Wide c = λ t e.
    let inv = c.loop-number.invariant t e in
    let p = at_node c.args.of.now c.args.nodes.now (boxed c.args.of.now.bounds t) c.loop-number.number c.loop-number.boxes.items c.index-nodes-number.result (omega arith) c.index-nodes-number.is inv.walk in
    let s = rw c.in-Err-Wide.field-0-is at c.in-Err-Wide.ensures in
    (p.here, p.element, λ n. s p.rest p.box p.stack ((p.narrow c.args.of.now).0 n))

pub loop-number-preserved : goal.loop-number-preserved
loop-number-preserved c = λ t e.
    let inv = c.loop-number.invariant t e in
    let p = at_node c.args.of.now c.args.nodes.now (boxed c.args.of.now.bounds t) c.loop-number.number c.loop-number.boxes.items c.index-nodes-number.result (omega arith) c.index-nodes-number.is inv.walk in
    let s = rw c.in-Ok-true.field-0-test at c.in-Ok-true.ensures in
    let y = s p.rest p.box p.stack in
    let next : suc c.loop-number.number ≡ c.loop-number.number + 1 = omega arith in
    record {
      walk = subst (λ (i : ℕ). Walk c.args.of.now (map node_of c.args.nodes.now) (boxed c.args.of.now.bounds t) i c.step.new.boxes.items) next (p.next c.step.new.boxes.items y.1.1);
      proves = one_more (NodeProves c.args.of.now c.args.most.now) (boxed c.args.of.now.bounds t) c.loop-number.number p.here inv.proves p.element ((p.proves c.args.of.now c.args.most.now).1 y.0);
      narrow = one_more (NodeIsNarrow c.args.of.now) (boxed c.args.of.now.bounds t) c.loop-number.number p.here inv.narrow p.element ((p.narrow c.args.of.now).1 y.1.0);
    }

pub returns : goal.returns
returns c = λ t e.
    let inv = c.loop-number.invariant t e in (
      all_read (NodeProves c.args.of.now c.args.most.now) c.args.nodes.now c.args.of.now.bounds t c.loop-number.number e (omega arith) inv.proves,
      all_read (NodeIsNarrow c.args.of.now) c.args.nodes.now c.args.of.now.bounds t c.loop-number.number e (omega arith) inv.narrow,
    )
