use Rattle.std.proofs.Common.{◌<◌, ◌∙◌, List, ap, length, map, refl, subst, sym}
use Rattle.opt_certificate.specs.Trees.{node_of}
use Rattle.search_paths.specs.Tables.{Table}
use Rattle.search_trees.specs.Orders.{AreApart, AreLater, IsPreorder}
use Rattle.search_trees.specs.declared.slots.Slot.{Slot}
use Rattle.search_trees.proofs.LastRoot.{opened_there, waiting_there}
use Rattle.search_trees.proofs.LastTree.{kept_of, rooted, gathered, too_long, is_tree, light, plain_where, fill_ready, slots_are}
use Rattle.search_trees.proofs.Ready.{made_is, added_is, all_below, may_is, few_nodes}
use Rattle.search_trees.proofs.making.last_tree.Goals as goal

pub fill-requires : goal.fill-requires
fill-requires c = fill_ready c.args.of.now c.args.frontier.now c.deref.result.now c.len.result c.whole-whole.ensures.valid c.requires c.deref.ensures.value c.len.ensures

pub last_root-root-requires-clause-opened : goal.last_root-root-requires-clause-opened
last_root-root-requires-clause-opened c = let k = kept_of c.args.of.now c.args.frontier.now c.whole-whole.ensures.valid c.requires in opened_there c.args.of.now c.args.frontier.now k.first k.kept

pub last_root-root-requires-clause-waiting : goal.last_root-root-requires-clause-waiting
last_root-root-requires-clause-waiting c = let k = kept_of c.args.of.now c.args.frontier.now c.whole-whole.ensures.valid c.requires in waiting_there c.args.of.now c.args.frontier.now k.first k.kept

pub preorder-requires-clause-root : goal.preorder-requires-clause-root
preorder-requires-clause-root c =
    let m = c.args.of.now in
    let f = c.args.frontier.now in
    let ss = c.in_ok-slots.slots.items in
    let root = c.last_root-root.result in
    let v = c.whole-whole.ensures.valid in
    let s = slots_are f c.deref.result.now c.len.result ss c.deref.ensures.value c.len.ensures c.in_ok-slots.ensures in
    let r = rooted m f ss root v c.requires s c.last_root-root.ensures in
    subst (λ (ss : List Slot). root < length ss) (sym c.deref-2.ensures.value) r.within

pub preorder-requires-clause-later : goal.preorder-requires-clause-later
preorder-requires-clause-later c =
    let m = c.args.of.now in
    let f = c.args.frontier.now in
    let ss = c.in_ok-slots.slots.items in
    let root = c.last_root-root.result in
    let v = c.whole-whole.ensures.valid in
    let s = slots_are f c.deref.result.now c.len.result ss c.deref.ensures.value c.len.ensures c.in_ok-slots.ensures in
    let r = rooted m f ss root v c.requires s c.last_root-root.ensures in
    subst (λ (ss : List Slot). AreLater root ss) (sym c.deref-2.ensures.value) r.later

pub preorder-requires-clause-apart : goal.preorder-requires-clause-apart
preorder-requires-clause-apart c =
    let m = c.args.of.now in
    let f = c.args.frontier.now in
    let ss = c.in_ok-slots.slots.items in
    let root = c.last_root-root.result in
    let v = c.whole-whole.ensures.valid in
    let s = slots_are f c.deref.result.now c.len.result ss c.deref.ensures.value c.len.ensures c.in_ok-slots.ensures in
    let r = rooted m f ss root v c.requires s c.last_root-root.ensures in
    subst (λ (ss : List Slot). AreApart root ss) (sym c.deref-2.ensures.value) r.apart

pub weigh-requires-clause-there : goal.weigh-requires-clause-there
weigh-requires-clause-there c =
    let m = c.args.of.now in
    let f = c.args.frontier.now in
    let ss = c.in_ok-slots.slots.items in
    let root = c.last_root-root.result in
    let v = c.whole-whole.ensures.valid in
    let s = slots_are f c.deref.result.now c.len.result ss c.deref.ensures.value c.len.ensures c.in_ok-slots.ensures in
    let order = c.in_ok-order.order.items in
    let p = subst (λ (ss : List Slot). IsPreorder ss root order) c.deref-2.ensures.value c.in_ok-order.ensures.order in
    let g = gathered m f ss root order v c.requires s c.last_root-root.ensures p in
    all_below c.deref-4.result.now order _ (length f.paths.paths) c.deref-4.ensures.value (ap length c.in_ok-paths.ensures) g.there

pub returns-then-weight-gt-MOST_WEIGHT : goal.returns-then-weight-gt-MOST_WEIGHT
returns-then-weight-gt-MOST_WEIGHT c =
    let m = c.args.of.now in
    let f = c.args.frontier.now in
    let ss = c.in_ok-slots.slots.items in
    let root = c.last_root-root.result in
    let v = c.whole-whole.ensures.valid in
    let s = slots_are f c.deref.result.now c.len.result ss c.deref.ensures.value c.len.ensures c.in_ok-slots.ensures in
    let order = c.in_ok-order.order.items in
    let p = subst (λ (ss : List Slot). IsPreorder ss root order) c.deref-2.ensures.value c.in_ok-order.ensures.order in
    let g = gathered m f ss root order v c.requires s c.last_root-root.ensures p in
    let w = c.in_ok-weight.weight in
    let q = added_is m c.in_ok-paths.paths.paths c.deref-3.result.now ss c.deref-4.result.now order w c.deref-3.ensures.value c.deref-4.ensures.value c.in_ok-weight.ensures.weight in
    too_long m f ss order c.in_ok-paths.paths.paths w g c.in_ok-paths.ensures q c.if-weight-gt-MOST_WEIGHT.true

pub make_nodes-requires-clause-there : goal.make_nodes-requires-clause-there
make_nodes-requires-clause-there c =
    let m = c.args.of.now in
    let f = c.args.frontier.now in
    let ss = c.in_ok-slots.slots.items in
    let root = c.last_root-root.result in
    let v = c.whole-whole.ensures.valid in
    let s = slots_are f c.deref.result.now c.len.result ss c.deref.ensures.value c.len.ensures c.in_ok-slots.ensures in
    let order = c.in_ok-order.order.items in
    let p = subst (λ (ss : List Slot). IsPreorder ss root order) c.deref-2.ensures.value c.in_ok-order.ensures.order in
    let g = gathered m f ss root order v c.requires s c.last_root-root.ensures p in
    let e = ap (λ (t : Table). t.paths) c.weigh.ensures.same ∙ c.in_ok-paths.ensures in
    all_below c.deref-6.result.now order _ (length f.paths.paths) c.deref-6.ensures.value (ap length e) g.there

pub make_nodes-requires-clause-may : goal.make_nodes-requires-clause-may
make_nodes-requires-clause-may c =
    let m = c.args.of.now in
    let f = c.args.frontier.now in
    let ss = c.in_ok-slots.slots.items in
    let root = c.last_root-root.result in
    let v = c.whole-whole.ensures.valid in
    let s = slots_are f c.deref.result.now c.len.result ss c.deref.ensures.value c.len.ensures c.in_ok-slots.ensures in
    let order = c.in_ok-order.order.items in
    let p = subst (λ (ss : List Slot). IsPreorder ss root order) c.deref-2.ensures.value c.in_ok-order.ensures.order in
    let g = gathered m f ss root order v c.requires s c.last_root-root.ensures p in
    let e = ap (λ (t : Table). t.paths) c.weigh.ensures.same ∙ c.in_ok-paths.ensures in
    may_is m _ c.is_some-plain.result _ f.paths.paths c.deref-5.result.now ss c.deref-6.result.now order (c.is_some-plain.ensures ∙ plain_where f.way) e c.deref-5.ensures.value c.deref-6.ensures.value g.may

pub placed-requires-clause-few : goal.placed-requires-clause-few
placed-requires-clause-few c =
    let m = c.args.of.now in
    let f = c.args.frontier.now in
    let ss = c.in_ok-slots.slots.items in
    let root = c.last_root-root.result in
    let v = c.whole-whole.ensures.valid in
    let s = slots_are f c.deref.result.now c.len.result ss c.deref.ensures.value c.len.ensures c.in_ok-slots.ensures in
    let order = c.in_ok-order.order.items in
    let p = subst (λ (ss : List Slot). IsPreorder ss root order) c.deref-2.ensures.value c.in_ok-order.ensures.order in
    let g = gathered m f ss root order v c.requires s c.last_root-root.ensures p in
    let e = ap (λ (t : Table). t.paths) c.weigh.ensures.same ∙ c.in_ok-paths.ensures in
    let made = made_is m c.is_some-plain.result c.weigh.new.paths.paths f.paths.paths c.deref-5.result.now ss c.deref-6.result.now order (map node_of c.in_ok-nodes.nodes.items) e c.deref-5.ensures.value c.deref-6.ensures.value c.in_ok-nodes.ensures.made in
    let same = is_tree m f ss order f.paths.paths c.is_some-plain.result (map node_of c.in_ok-nodes.nodes.items) g refl (c.is_some-plain.ensures ∙ plain_where f.way) made in
    let w = c.in_ok-weight.weight in
    let q = added_is m c.in_ok-paths.paths.paths c.deref-3.result.now ss c.deref-4.result.now order w c.deref-3.ensures.value c.deref-4.ensures.value c.in_ok-weight.ensures.weight in
    let few = light m f ss order c.in_ok-paths.paths.paths w g c.in_ok-paths.ensures q c.if-weight-gt-MOST_WEIGHT.false in
    few_nodes m c.in_ok-nodes.nodes.items g.by.tree same few

pub placed-requires-clause-tree : goal.placed-requires-clause-tree
placed-requires-clause-tree c =
    let m = c.args.of.now in
    let f = c.args.frontier.now in
    let ss = c.in_ok-slots.slots.items in
    let root = c.last_root-root.result in
    let v = c.whole-whole.ensures.valid in
    let s = slots_are f c.deref.result.now c.len.result ss c.deref.ensures.value c.len.ensures c.in_ok-slots.ensures in
    let order = c.in_ok-order.order.items in
    let p = subst (λ (ss : List Slot). IsPreorder ss root order) c.deref-2.ensures.value c.in_ok-order.ensures.order in
    let g = gathered m f ss root order v c.requires s c.last_root-root.ensures p in
    let e = ap (λ (t : Table). t.paths) c.weigh.ensures.same ∙ c.in_ok-paths.ensures in
    let made = made_is m c.is_some-plain.result c.weigh.new.paths.paths f.paths.paths c.deref-5.result.now ss c.deref-6.result.now order (map node_of c.in_ok-nodes.nodes.items) e c.deref-5.ensures.value c.deref-6.ensures.value c.in_ok-nodes.ensures.made in
    let same = is_tree m f ss order f.paths.paths c.is_some-plain.result (map node_of c.in_ok-nodes.nodes.items) g refl (c.is_some-plain.ensures ∙ plain_where f.way) made in
    (g.by.tree, same)

pub returns : goal.returns
returns c =
    let m = c.args.of.now in
    let f = c.args.frontier.now in
    let ss = c.in_ok-slots.slots.items in
    let root = c.last_root-root.result in
    let v = c.whole-whole.ensures.valid in
    let s = slots_are f c.deref.result.now c.len.result ss c.deref.ensures.value c.len.ensures c.in_ok-slots.ensures in
    let order = c.in_ok-order.order.items in
    let p = subst (λ (ss : List Slot). IsPreorder ss root order) c.deref-2.ensures.value c.in_ok-order.ensures.order in
    let g = gathered m f ss root order v c.requires s c.last_root-root.ensures p in
    let e = ap (λ (t : Table). t.paths) c.weigh.ensures.same ∙ c.in_ok-paths.ensures in
    let made = made_is m c.is_some-plain.result c.weigh.new.paths.paths f.paths.paths c.deref-5.result.now ss c.deref-6.result.now order (map node_of c.in_ok-nodes.nodes.items) e c.deref-5.ensures.value c.deref-6.ensures.value c.in_ok-nodes.ensures.made in
    let same = is_tree m f ss order f.paths.paths c.is_some-plain.result (map node_of c.in_ok-nodes.nodes.items) g refl (c.is_some-plain.ensures ∙ plain_where f.way) made in
    let w = c.in_ok-weight.weight in
    let q = added_is m c.in_ok-paths.paths.paths c.deref-3.result.now ss c.deref-4.result.now order w c.deref-3.ensures.value c.deref-4.ensures.value c.in_ok-weight.ensures.weight in
    let few = light m f ss order c.in_ok-paths.paths.paths w g c.in_ok-paths.ensures q c.if-weight-gt-MOST_WEIGHT.false in
    (g.by.tree, g.by.last, c.in_ok-placed.ensures g.by.tree same, few)
