use Rattle.std.proofs.Common.{length, arith, inl, inr, ap, sym, ◌∙◌}
use Rattle.dep_table.specs.Edges.{edge, most_slots, slot}
use Rattle.dep_table.specs.Tour.{mark_at}
use Rattle.dep_table.proofs.SlotLaws.{edge_slot, slot_edge, slot_place}
use Rattle.dep_table.proofs.StepLaws.{top_within, finish_at, finish_less, advance_at, advance_less, enter_at, enter_less, close_at, close_less}
use Rattle.dep_table.proofs.TourLaws.{closed_kept}
use Rattle.dep_table.proofs.tour.step.Goals as goal

pub returns-in_default-clause-sound : goal.returns-in_default-clause-sound
returns-in_default-clause-sound c =
    finish_at (length c.args.formulas.now) (most_slots c.args.formulas.now) (edge c.args.formulas.now c.args.leaves.now) (slot c.args.formulas.now c.args.leaves.now)
    c.args.marks.now c.args.cursors.now c.args.stack.now.items c.args.order.now.items c.index-node.result.now c.requires.sound c.len.result c.args.stack.now.len c.len.ensures c.args.stack.now.ok.0 c.requires.some c.index-node.ensures
    c.pop.new.self.items c.push.new.self.items c.pop.ensures.rest c.in_ok-push.ensures.items
    (edge_slot c.args.formulas.now c.args.leaves.now c.index-node.result.now) c.in_default.ensures.none

pub returns-in_default-clause-less : goal.returns-in_default-clause-less
returns-in_default-clause-less c =
    finish_less (length c.args.formulas.now) (most_slots c.args.formulas.now) (edge c.args.formulas.now c.args.leaves.now) (slot c.args.formulas.now c.args.leaves.now)
    c.args.marks.now c.args.cursors.now c.args.stack.now.items c.args.order.now.items c.index-node.result.now c.requires.sound c.len.result c.args.stack.now.len c.len.ensures c.args.stack.now.ok.0 c.requires.some c.index-node.ensures
    c.pop.new.self.items c.pop.ensures.rest

pub offset_bounds-cursors-node-in-Done : goal.offset_bounds-cursors-node-in-Done
offset_bounds-cursors-node-in-Done c =
    let w = top_within (length c.args.formulas.now) (most_slots c.args.formulas.now) (edge c.args.formulas.now c.args.leaves.now) (slot c.args.formulas.now c.args.leaves.now)
    c.args.marks.now c.args.cursors.now c.args.stack.now.items c.args.order.now.items c.index-node.result.now c.requires.sound c.len.result c.args.stack.now.len c.len.ensures c.args.stack.now.ok.0 c.requires.some c.index-node.ensures in omega (arith, w)

pub bounds-cursors-node : goal.bounds-cursors-node
bounds-cursors-node c =
    let w = top_within (length c.args.formulas.now) (most_slots c.args.formulas.now) (edge c.args.formulas.now c.args.leaves.now) (slot c.args.formulas.now c.args.leaves.now)
    c.args.marks.now c.args.cursors.now c.args.stack.now.items c.args.order.now.items c.index-node.result.now c.requires.sound c.len.result c.args.stack.now.len c.len.ensures c.args.stack.now.ok.0 c.requires.some c.index-node.ensures in omega (arith, w, c.requires.sound.same_length)

pub returns-in-Done-clause-sound : goal.returns-in-Done-clause-sound
returns-in-Done-clause-sound c =
    advance_at (length c.args.formulas.now) (most_slots c.args.formulas.now) (edge c.args.formulas.now c.args.leaves.now) (slot c.args.formulas.now c.args.leaves.now)
    c.args.marks.now c.args.cursors.now c.args.stack.now.items c.args.order.now.items c.index-node.result.now c.requires.sound c.len.result c.args.stack.now.len c.len.ensures c.args.stack.now.ok.0 c.requires.some c.index-node.ensures
    c.in-Some.found.area c.in-Some.found.place c.in-Some.ensures.place.1 (cc) (slot_place c.args.formulas.now c.args.leaves.now) c.in-Some.ensures.first

pub returns-in-Done-clause-less : goal.returns-in-Done-clause-less
returns-in-Done-clause-less c =
    advance_less (length c.args.formulas.now) (most_slots c.args.formulas.now) (edge c.args.formulas.now c.args.leaves.now) (slot c.args.formulas.now c.args.leaves.now)
    c.args.marks.now c.args.cursors.now c.args.stack.now.items c.args.order.now.items c.index-node.result.now c.requires.sound c.len.result c.args.stack.now.len c.len.ensures c.args.stack.now.ok.0 c.requires.some c.index-node.ensures
    c.in-Some.found.area c.in-Some.found.place c.in-Some.ensures.place.0 c.in-Some.ensures.place.2

pub returns-in_ok-push-in-New-clause-sound : goal.returns-in_ok-push-in-New-clause-sound
returns-in_ok-push-in-New-clause-sound c =
    enter_at (length c.args.formulas.now) (most_slots c.args.formulas.now) (edge c.args.formulas.now c.args.leaves.now) (slot c.args.formulas.now c.args.leaves.now)
    c.args.marks.now c.args.cursors.now c.args.stack.now.items c.args.order.now.items c.index-node.result.now c.requires.sound c.len.result c.args.stack.now.len c.len.ensures c.args.stack.now.ok.0 c.requires.some c.index-node.ensures
    c.in-Some.found.place c.push-in-New.new.self.items c.in_ok-push-in-New.ensures.items (omega (arith, c.in-Some.ensures.place.1, c.requires.nodes)) (cc) (slot_edge c.args.formulas.now c.args.leaves.now c.index-node.result.now c.in-Some.found.area c.in-Some.found.place c.in-Some.ensures.slot)

pub returns-in_ok-push-in-New-clause-less : goal.returns-in_ok-push-in-New-clause-less
returns-in_ok-push-in-New-clause-less c =
    enter_less (length c.args.formulas.now) (most_slots c.args.formulas.now) (edge c.args.formulas.now c.args.leaves.now) (slot c.args.formulas.now c.args.leaves.now)
    c.args.marks.now c.args.cursors.now c.args.stack.now.items c.args.order.now.items c.index-node.result.now c.requires.sound c.len.result c.args.stack.now.len c.len.ensures c.args.stack.now.ok.0 c.requires.some c.index-node.ensures
    c.in-Some.found.place c.push-in-New.new.self.items c.in_ok-push-in-New.ensures.items (omega (arith, c.in-Some.ensures.place.1, c.requires.nodes)) (cc)

pub returns-in-Open-clause-sound : goal.returns-in-Open-clause-sound
returns-in-Open-clause-sound c =
    close_at (length c.args.formulas.now) (most_slots c.args.formulas.now) (edge c.args.formulas.now c.args.leaves.now) (slot c.args.formulas.now c.args.leaves.now)
    c.args.marks.now c.args.cursors.now c.args.stack.now.items c.args.order.now.items c.index-node.result.now c.requires.sound c.len.result c.args.stack.now.len c.len.ensures c.args.stack.now.ok.0 c.requires.some c.index-node.ensures
    c.in-Some.found.place c.close.new.marks c.close.new.stack.items c.close.ensures.marked c.close.ensures.empty (inl (cc)) (slot_edge c.args.formulas.now c.args.leaves.now c.index-node.result.now c.in-Some.found.area c.in-Some.found.place c.in-Some.ensures.slot)

pub returns-in-Open-clause-less : goal.returns-in-Open-clause-less
returns-in-Open-clause-less c =
    close_less (length c.args.formulas.now) (most_slots c.args.formulas.now) (edge c.args.formulas.now c.args.leaves.now) (slot c.args.formulas.now c.args.leaves.now)
    c.args.marks.now c.args.cursors.now c.args.stack.now.items c.args.order.now.items c.index-node.result.now c.requires.sound c.len.result c.args.stack.now.len c.len.ensures c.args.stack.now.ok.0 c.requires.some c.index-node.ensures
    c.close.new.marks c.close.new.stack.items c.close.ensures.marked c.close.ensures.empty

pub returns-in-Open-clause-kept : goal.returns-in-Open-clause-kept
returns-in-Open-clause-kept c = λ k h e.
    closed_kept c.args.stack.now.items c.args.marks.now (λ p b. (c.requires.sound.stacked p b).1) k h (ap (λ ms. mark_at ms k) (sym c.close.ensures.marked) ∙ e)

pub returns-in-Circular-clause-sound : goal.returns-in-Circular-clause-sound
returns-in-Circular-clause-sound c =
    close_at (length c.args.formulas.now) (most_slots c.args.formulas.now) (edge c.args.formulas.now c.args.leaves.now) (slot c.args.formulas.now c.args.leaves.now)
    c.args.marks.now c.args.cursors.now c.args.stack.now.items c.args.order.now.items c.index-node.result.now c.requires.sound c.len.result c.args.stack.now.len c.len.ensures c.args.stack.now.ok.0 c.requires.some c.index-node.ensures
    c.in-Some.found.place c.close-in-Circular.new.marks c.close-in-Circular.new.stack.items c.close-in-Circular.ensures.marked c.close-in-Circular.ensures.empty (inr (cc)) (slot_edge c.args.formulas.now c.args.leaves.now c.index-node.result.now c.in-Some.found.area c.in-Some.found.place c.in-Some.ensures.slot)

pub returns-in-Circular-clause-less : goal.returns-in-Circular-clause-less
returns-in-Circular-clause-less c =
    close_less (length c.args.formulas.now) (most_slots c.args.formulas.now) (edge c.args.formulas.now c.args.leaves.now) (slot c.args.formulas.now c.args.leaves.now)
    c.args.marks.now c.args.cursors.now c.args.stack.now.items c.args.order.now.items c.index-node.result.now c.requires.sound c.len.result c.args.stack.now.len c.len.ensures c.args.stack.now.ok.0 c.requires.some c.index-node.ensures
    c.close-in-Circular.new.marks c.close-in-Circular.new.stack.items c.close-in-Circular.ensures.marked c.close-in-Circular.ensures.empty

pub returns-in-Circular-clause-kept : goal.returns-in-Circular-clause-kept
returns-in-Circular-clause-kept c = λ k h e.
    closed_kept c.args.stack.now.items c.args.marks.now (λ p b. (c.requires.sound.stacked p b).1) k h (ap (λ ms. mark_at ms k) (sym c.close-in-Circular.ensures.marked) ∙ e)
