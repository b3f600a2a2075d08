use Rattle.std.proofs.Common.{◌≡◌, ◌≢◌, ℕ, length}
use Rattle.dep_table.specs.declared.tour.Mark.TheVariants.{New}
use Rattle.dep_table.specs.Edges.{edge, most_slots, slot}
use Rattle.dep_table.specs.Tour.{IsSound, mark_at, work}
use Rattle.dep_table.proofs.tour.explore.Given as goal

abbrev pub invariant-loop-stack : goal.invariant-loop-stack
invariant-loop-stack l = record {
  sound : IsSound (length l.formulas) (edge l.formulas l.leaves) (slot l.formulas l.leaves) l.marks l.cursors l.stack.items l.order.items;
  nodes : length l.marks ≡ length l.formulas;
  kept : (k : ℕ) → mark_at l.fn.marks k ≢ New → mark_at l.marks k ≢ New;
  visited : mark_at l.marks l.root ≢ New;
}

abbrev pub decreases-loop-stack : goal.decreases-loop-stack
decreases-loop-stack l = work (length l.formulas) (most_slots l.formulas) l.marks l.cursors l.stack.items
