use Rattle.std.proofs.Common.{◌≡◌, ◌-◌, arith, drop, length, map, set, subst, suc, sym}
use Rattle.opt_certificate.specs.Trees.{node_of}
use Rattle.search_trees.specs.Preorders.{ArePlaced, PartsSet}
use Rattle.search_trees.proofs.Placing.{PlacedFrom, placed_start, placed_step}
use Rattle.search_trees.proofs.places.set_places.Goals as goal

pub loop-place-init : goal.loop-place-init
loop-place-init c = subst (λ xs. PlacedFrom c.args.nodes.now c.args.nodes.now (length c.args.nodes.now) xs) (sym c.new-starts.ensures.items) (placed_start c.args.nodes.now)

pub offset_bounds-nodes-place : goal.offset_bounds-nodes-place
offset_bounds-nodes-place c = omega (arith, c.loop-place.invariant.within, c.requires)

pub bounds-nodes-place : goal.bounds-nodes-place
bounds-nodes-place c = omega (arith, c.loop-place.invariant.within, c.loop-place.invariant.same, c.loop-place-test.true)

pub overflow_cast-place : goal.overflow_cast-place
overflow_cast-place c = omega (arith, c.loop-place.invariant.within, c.requires, c.loop-place-test.true)

pub loop-place-preserved : goal.loop-place-preserved
loop-place-preserved c =
    let q = c.loop-place.place - 1 in
    let next : suc (c.loop-place.place - 1) ≡ c.loop-place.place = omega (arith, c.loop-place-test.true) in
    subst (λ xs. PlacedFrom c.args.nodes.now (set c.loop-place.nodes q c.set_parts.new.node) q xs) (sym c.in_ok-push.ensures.items)
    (placed_step c.args.nodes.now c.loop-place.nodes c.loop-place.place q c.index-nodes-place.result c.set_parts.new.node c.loop-place.starts.items c.set_parts.new.starts.items
    c.loop-place.invariant next c.index-nodes-place.is
    (subst (λ x. PartsSet (node_of x) c.loop-place.starts.items (node_of c.set_parts.new.node) c.set_parts.new.starts.items) (sym c.index-nodes-place.is) c.set_parts.ensures))

pub returns : goal.returns
returns c = λ ts e.
    let none : c.loop-place.place ≡ 0 = omega (arith, c.loop-place-test.false) in
    let h = subst (λ k. ArePlaced k (map node_of (drop k c.args.nodes.now)) (map node_of (drop k c.loop-place.nodes)) c.loop-place.starts.items) none c.loop-place.invariant.placed in
    (h ts e).0
