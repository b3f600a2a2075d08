use Rattle.std.proofs.Common.{◌≡◌, ◌<◌, ◌+◌, ℕ, suc, length, take, set, arith, refl, sym, subst}
use Rattle.std.proofs.lemmas.Option.{slice_get_read}
use Rattle.branch_bound.specs.declared.frontier.Visit.{Visit}
use Rattle.search_trees.specs.declared.slots.Slot.{Slot}
use Rattle.search_trees.specs.Slots.{AreSlots}
use Rattle.search_trees.proofs.Filling.{more_slots}
use Rattle.search_trees.proofs.slots.fill.Goals as goal

pub loop-visit-preserved : goal.loop-visit-preserved
loop-visit-preserved c =
    let os = c.args.opened.now in
    let i = c.loop-visit.visit-index in
    let v = c.visit-item.result in
    let ss = c.loop-visit.made.items in
    let lt : i < length os = c.loop-visit-test.true in
    let there = slice_get_read os (length os) i v refl lt c.visit-item.is in
    let few : v.number < c.args.count = subst (λ (w : Visit). w.number < c.args.count) (sym c.visit-item.is) (c.requires i v lt) in
    let next : suc i ≡ i + 1 = omega arith in
    subst (λ (k : ℕ). AreSlots c.args.count (take k os) (set ss v.number c.slot_of.result)) next
    (subst (λ (s : Slot). AreSlots c.args.count (take (suc i) os) (set ss v.number s)) (sym c.slot_of.ensures) (more_slots c.args.count os i v ss there few c.loop-visit.invariant))
