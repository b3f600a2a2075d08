use Rattle.std.proofs.Common.{◌<◌, ap, length, map, refl, rules, arith}
use Rattle.std.specs.Prelude.{FitsSigned}
use Rattle.std.specs.Int.{w128}
use Rattle.std.proofs.lemmas.Int.{to_z-of_z, ints}
use Rattle.std.proofs.lemmas.List.{length-map}
use Rattle.std.proofs.lemmas.Bool.{false≢true}
use Rattle.opt_certificate.specs.Nodes.{split_at, best_leaf, empty_leaf, clash_leaf}
use Rattle.opt_certificate.specs.Trees.{node_of}
use Rattle.opt_certificate.proofs.Ends.{node_read, read_within}
use Rattle.opt_certificate.proofs.Rights.{best_right, clash_right, empty_right, right_floor, split_right, split_tested}
use Rattle.opt_certificate.proofs.Wholes.{not_narrow}
use Rattle.opt_certificate.proofs.tree.is_right.Goals as goal

pub returns-in-Best : goal.returns-in-Best
returns-in-Best c =
    let ns = map node_of c.args.nodes.now in
    let h : c.args.place < length ns = read_within c.args.nodes.now c.args.place c.requires.within in
    (λ e. best_right ns c.args.place c.in-Best.field-0.items h (node_read c.args.nodes.now c.args.place c.index-nodes-place.result (best_leaf c.in-Best.field-0.items) c.requires.within c.index-nodes-place.is (ap node_of c.in-Best.is)), λ r. refl)

pub returns-in-Empty : goal.returns-in-Empty
returns-in-Empty c =
    let ns = map node_of c.args.nodes.now in
    let h : c.args.place < length ns = read_within c.args.nodes.now c.args.place c.requires.within in
    (λ e. empty_right ns c.args.place c.in-Empty.field-0.items h (node_read c.args.nodes.now c.args.place c.index-nodes-place.result (empty_leaf c.in-Empty.field-0.items) c.requires.within c.index-nodes-place.is (ap node_of c.in-Empty.is)), λ r. refl)

pub returns-in-Clash : goal.returns-in-Clash
returns-in-Clash c =
    let ns = map node_of c.args.nodes.now in
    let h : c.args.place < length ns = read_within c.args.nodes.now c.args.place c.requires.within in (
      λ e. clash_right ns c.args.place c.in-Clash.field-0 c.in-Clash.field-1 h (node_read c.args.nodes.now c.args.place c.index-nodes-place.result (clash_leaf c.in-Clash.field-0 c.in-Clash.field-1) c.requires.within c.index-nodes-place.is (ap node_of c.in-Clash.is)),
      λ r. refl,
    )

pub returns-then-not-is_narrow_floor : goal.returns-then-not-is_narrow_floor
returns-then-not-is_narrow_floor c =
    let ns = map node_of c.args.nodes.now in
    let h : c.args.place < length ns = read_within c.args.nodes.now c.args.place c.requires.within in
    let node = split_at c.in-Split.field-0 c.in-Split.floor c.in-Split.lower c.in-Split.upper in
    let e = node_read c.args.nodes.now c.args.place c.index-nodes-place.result node c.requires.within c.index-nodes-place.is (ap node_of c.in-Split.is) in
    (λ q. absurd (false≢true q), λ r. absurd (not_narrow c.in-Split.floor c.is_narrow_floor.result c.is_narrow_floor.ensures c.if-not-is_narrow_floor.true (right_floor ns c.args.place node h e r)))

pub returns-else-not-is_narrow_floor : goal.returns-else-not-is_narrow_floor
returns-else-not-is_narrow_floor c =
    let ns = map node_of c.args.nodes.now in
    let h : c.args.place < length ns = read_within c.args.nodes.now c.args.place c.requires.within in
    let node = split_at c.in-Split.field-0 c.in-Split.floor c.in-Split.lower c.in-Split.upper in
    let e = node_read c.args.nodes.now c.args.place c.index-nodes-place.result node c.requires.within c.index-nodes-place.is (ap node_of c.in-Split.is) in
    let f : FitsSigned w128 c.in-Split.floor = first_of (search rules, omega (arith, ints), grind arith) in
    let z = rw (to_z-of_z w128 c.in-Split.floor f) at (c.is_narrow_floor.ensures.0 c.if-not-is_narrow_floor.false) in (
      λ q. let t = c.has_parts.ensures.0 q in
          split_right ns c.args.place c.in-Split.field-0 c.in-Split.floor c.in-Split.lower c.in-Split.upper h e c.requires.parts z (t.0, omega (arith, t.1, length-map c.args.nodes.now node_of), t.2, t.3, t.4, t.5),
      λ r. let t = split_tested ns c.args.place c.in-Split.field-0 c.in-Split.floor c.in-Split.lower c.in-Split.upper h e r in
          c.has_parts.ensures.1 (t.0, omega (arith, t.1, length-map c.args.nodes.now node_of), t.2, t.3, t.4, t.5),
    )
