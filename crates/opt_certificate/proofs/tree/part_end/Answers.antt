use Rattle.std.proofs.Common.{◌+◌, ◌-◌, ◌<◌, ◌≤◌, ap, arith, length, map}
use Rattle.std.proofs.lemmas.List.{length-map}
use Rattle.opt_certificate.specs.Nodes.{split_at, best_leaf, empty_leaf, clash_leaf, size}
use Rattle.opt_certificate.specs.Trees.{node_of}
use Rattle.opt_certificate.proofs.Ends.{splits, node_read, read_within, best_size, empty_size, clash_size, same_end}
use Rattle.opt_certificate.proofs.tree.part_end.Goals as goal

pub loop-place-smaller : goal.loop-place-smaller
loop-place-smaller c =
    let ns = map node_of c.args.nodes.now in
    let k = c.loop-place.place in
    let h : k < length ns = read_within c.args.nodes.now k c.loop-place.invariant.within in
    let e = node_read c.args.nodes.now k c.index-nodes-place.result (split_at c.in-Split.field-0 c.in-Split.field-1 c.in-Split.field-2 c.in-Split.upper) c.loop-place.invariant.within c.index-nodes-place.is (ap node_of c.in-Split.is) in
    let p = c.requires.parts k c.loop-place.invariant.later h in
    let s = splits ns k c.in-Split.field-0 c.in-Split.field-1 c.in-Split.field-2 c.in-Split.upper p.tree p.rest h e p.is in
    let a : c.in-Split.upper < length c.args.nodes.now = omega (arith, s.within, length-map c.args.nodes.now node_of) in
    let b : k < c.in-Split.upper = omega (arith, s.upper_at) in
    let d : length c.args.nodes.now - c.in-Split.upper < length c.args.nodes.now - k = omega arith in d

pub loop-place-preserved : goal.loop-place-preserved
loop-place-preserved c =
    let ns = map node_of c.args.nodes.now in
    let k = c.loop-place.place in
    let h : k < length ns = read_within c.args.nodes.now k c.loop-place.invariant.within in
    let e = node_read c.args.nodes.now k c.index-nodes-place.result (split_at c.in-Split.field-0 c.in-Split.field-1 c.in-Split.field-2 c.in-Split.upper) c.loop-place.invariant.within c.index-nodes-place.is (ap node_of c.in-Split.is) in
    let p = c.requires.parts k c.loop-place.invariant.later h in
    let s = splits ns k c.in-Split.field-0 c.in-Split.field-1 c.in-Split.field-2 c.in-Split.upper p.tree p.rest h e p.is in
    let a : c.in-Split.upper < length c.args.nodes.now = omega (arith, s.within, length-map c.args.nodes.now node_of) in
    let b : c.args.start ≤ c.in-Split.upper = omega (arith, s.upper_at, c.loop-place.invariant.later) in
    record {
      later = b;
      within = a;
      same_end = λ t rest q.
          let i = c.loop-place.invariant.same_end t rest q in
          let z = splits ns k c.in-Split.field-0 c.in-Split.field-1 c.in-Split.field-2 c.in-Split.upper i.0 i.1 h e i.2 in
          (z.up, i.1, z.up_is, same_end ns k c.in-Split.field-0 c.in-Split.field-1 c.in-Split.field-2 c.in-Split.upper i.0 i.1 z (c.args.start + size t) i.3);
    }

pub returns-in-Best : goal.returns-in-Best
returns-in-Best c = λ t rest q.
    let ns = map node_of c.args.nodes.now in
    let k = c.loop-place.place in
    let h : k < length ns = read_within c.args.nodes.now k c.loop-place.invariant.within in
    let i = c.loop-place.invariant.same_end t rest q in
    let e = node_read c.args.nodes.now k c.index-nodes-place.result (best_leaf c.in-Best.field-0.items) c.loop-place.invariant.within c.index-nodes-place.is (ap node_of c.in-Best.is) in
    omega (arith, i.3, best_size ns k c.in-Best.field-0.items i.0 i.1 h e i.2)

pub returns-in-Empty : goal.returns-in-Empty
returns-in-Empty c = λ t rest q.
    let ns = map node_of c.args.nodes.now in
    let k = c.loop-place.place in
    let h : k < length ns = read_within c.args.nodes.now k c.loop-place.invariant.within in
    let i = c.loop-place.invariant.same_end t rest q in
    let e = node_read c.args.nodes.now k c.index-nodes-place.result (empty_leaf c.in-Empty.field-0.items) c.loop-place.invariant.within c.index-nodes-place.is (ap node_of c.in-Empty.is) in
    omega (arith, i.3, empty_size ns k c.in-Empty.field-0.items i.0 i.1 h e i.2)

pub returns-in-Clash : goal.returns-in-Clash
returns-in-Clash c = λ t rest q.
    let ns = map node_of c.args.nodes.now in
    let k = c.loop-place.place in
    let h : k < length ns = read_within c.args.nodes.now k c.loop-place.invariant.within in
    let i = c.loop-place.invariant.same_end t rest q in
    let e = node_read c.args.nodes.now k c.index-nodes-place.result (clash_leaf c.in-Clash.field-0 c.in-Clash.field-1) c.loop-place.invariant.within c.index-nodes-place.is (ap node_of c.in-Clash.is) in
    omega (arith, i.3, clash_size ns k c.in-Clash.field-0 c.in-Clash.field-1 i.0 i.1 h e i.2)
