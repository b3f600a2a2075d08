use Rattle.std.proofs.Common.{◌≡◌, ◌+◌, ◌*◌, ◌<◌, ◌≤◌, false, length, ℕ}
use Rattle.dep_table.specs.Edges.{number, slot}
use Rattle.dep_table.proofs.find.next_reference.Given as goal

abbrev pub invariant-loop-area : goal.invariant-loop-area
invariant-loop-area l = record {
  within : l.place ≤ length l.formulas;
  from : number (length l.formulas) l.fn.from ≤ l.area * length l.formulas + l.place;
  past : (a j : ℕ) → number (length l.formulas) l.fn.from ≤ a * length l.formulas + j → a * length l.formulas + j < l.area * length l.formulas + l.place
      → slot l.formulas l.leaves l.node a j ≡ false;
}
