use Rattle.std.proofs.Common.{◌≡◌, ◌∙◌, ap, length, arith}
use Rattle.search_trees.proofs.Placing.{written_back, placed_nodes, placed_is_tree}
use Rattle.search_trees.proofs.places.placed.Goals as goal

pub unreachable-requires : goal.unreachable-requires
unreachable-requires c =
    let old = c.args.nodes.items in
    let now = c.set_places.new.nodes in
    let a = c.set_places.auto.nodes in
    let b = ap length c.deref_mut.ensures.value in
    let n = c.args.nodes.ok.0 in
    let same : length now ≡ length old = omega (arith, a, b) in
    let w = written_back c.args.nodes.len now old n same in
    let t = c.requires.tree.0 in
    let e = c.requires.tree.1 in
    let listed = placed_nodes old c.deref_mut.result.now now _ t c.deref_mut.ensures.value w e c.in_ok-set_places.ensures in
    c.in-None.ensures (placed_is_tree old _ t c.requires.few (ap length w ∙ same) c.requires.floors e listed)

pub returns : goal.returns
returns c = λ t e.
    let old = c.args.nodes.items in
    let now = c.set_places.new.nodes in
    let a = c.set_places.auto.nodes in
    let b = ap length c.deref_mut.ensures.value in
    let n = c.args.nodes.ok.0 in
    let same : length now ≡ length old = omega (arith, a, b) in
    let w = written_back c.args.nodes.len now old n same in
    c.in-Some.ensures.0 ∙ placed_nodes old c.deref_mut.result.now now _ t c.deref_mut.ensures.value w e c.in_ok-set_places.ensures
