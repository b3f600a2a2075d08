use Rattle.std.proofs.Common.{◌≡◌, ◌≢◌, ◌<◌, ℕ, [], false, get_or, length, true}
use Rattle.dep_table.specs.declared.tour.Mark.TheVariants.{New}
use Rattle.dep_table.specs.Edges.{edge, slot}
use Rattle.dep_table.specs.Tour.{IsSound, mark_at}
use Rattle.dep_table.proofs.tour.explore_wanted.Given as goal

abbrev pub invariant-loop-root : goal.invariant-loop-root
invariant-loop-root l = record {
  sound : IsSound (length l.formulas) (edge l.formulas l.leaves) (slot l.formulas l.leaves) l.marks l.cursors [] l.order.items;
  nodes : length l.marks ≡ length l.formulas;
  visited : (k : ℕ) → k < l.root → get_or l.wanted k false ≡ true → mark_at l.marks k ≢ New;
}
