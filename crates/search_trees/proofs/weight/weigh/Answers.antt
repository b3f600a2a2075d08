use Rattle.std.proofs.Common.{◌<◌, ◌∙◌, ap, arith, get_or, length}
use Rattle.search_paths.specs.Tables.{Table}
use Rattle.search_trees.specs.declared.slots.Slot.TheVariants as slots
use Rattle.search_trees.proofs.Ready.{weight_is, added_last}
use Rattle.search_trees.proofs.Walking.{same_at}
use Rattle.search_trees.proofs.weight.weigh.Goals as goal

pub loop-number-preserved : goal.loop-number-preserved
loop-number-preserved c =
    let m = c.args.of.now in
    let ps = c.args.paths.now.paths in
    let ss = c.args.slots.now in
    let order = c.args.order.now in
    let i = c.loop-number.number-index in
    let n = get_or order i 0 in
    let a = c.loop-number.invariant.weight in
    let l = c.loop-number.invariant.light in
    let k = c.in_ok-weight.ensures.light in
    let there : n < length ps = c.requires.there i 0 c.loop-number-test.true in
    let size = c.requires.slots in
    let within : n < length ss = omega (arith, there, size) in
    let w = weight_is m c.loop-number.paths.paths ps ss n _ c.in_ok-weight.field-0 (ap (λ (t : Table). t.paths) c.loop-number.invariant.same) (same_at ss n _ slots.Waits within) c.in_ok-weight.ensures.weight in
    let e = added_last m ps ss order i c.loop-number-test.true in
    record { weight = omega (arith, a, w, e); light = omega (arith, l, k); same = c.weight_at.ensures.same ∙ c.loop-number.invariant.same }
