use Rattle.std.proofs.Common.{◌<◌, ◌+◌, ◌++◌, ◌∷◌, [], ◌∙◌, ℕ, List, ap, arith, get_or, length, map, subst, sym, take}
use Rattle.std.proofs.lemmas.List.{map-append, take_more}
use Rattle.std.proofs.lemmas.List.Elements.{All-push, All-same}
use Rattle.opt_certificate.specs.Nodes.{Node, HasNarrowFloor}
use Rattle.opt_certificate.specs.Trees.{node_of}
use Rattle.search_paths.specs.Tables.{Table}
use Rattle.search_trees.specs.declared.slots.Slot.TheVariants as slots
use Rattle.search_trees.specs.Made.{AreMade}
use Rattle.search_trees.proofs.Ready.{made_at, made_more}
use Rattle.search_trees.proofs.Walking.{same_at}
use Rattle.search_trees.proofs.nodes.make_nodes.Goals as goal

pub loop-number-preserved : goal.loop-number-preserved
loop-number-preserved c =
    let m = c.args.of.now in
    let plain = c.args.plain in
    let ps = c.args.paths.now.paths in
    let ss = c.args.slots.now in
    let order = c.args.order.now in
    let i = c.loop-number.number-index in
    let n = get_or order i 0 in
    let inv = c.loop-number.invariant in
    let x = c.in_ok-node.field-0 in
    let xs = c.loop-number.made.items in
    let there : n < length ps = c.requires.there i 0 c.loop-number-test.true in
    let size = c.requires.slots in
    let within : n < length ss = omega (arith, there, size) in
    let k = made_at m plain ps c.loop-number.paths.paths ss n _ (node_of x) (ap (λ (t : Table). t.paths) inv.same) (same_at ss n _ slots.Waits within) c.in_ok-node.ensures.made in
    let e = ap (map node_of) c.in_ok-push.ensures.items ∙ map-append node_of xs (x ∷ []) in
    record {
      made = subst (λ (ys : List Node). AreMade m plain ps ss (take (i + 1) order) ys) (sym e)
          (subst (λ (ns : List ℕ). AreMade m plain ps ss ns (map node_of xs ++ node_of x ∷ [])) (sym (take_more order i 0 c.loop-number-test.true)) (made_more m plain ps ss (take i order) (map node_of xs) n (node_of x) inv.made k));
      narrow = All-same HasNarrowFloor _ _ e (All-push HasNarrowFloor (map node_of xs) (node_of x) inv.narrow c.in_ok-node.ensures.narrow);
      same = c.node.ensures.same ∙ inv.same;
    }
