use Rattle.std.proofs.Common.{◌≡◌, length}
use Rattle.cell_refs.specs.declared.cell.Cell.{Cell}
use Rattle.workbook.specs.Held.{held_at}
use Rattle.workbook.specs.Renamed.{resaid, said_at}
use Rattle.workbook.proofs.held.say_otherwise.Given as goal

-- with what is left all is said
abbrev pub invariant-loop-cell : goal.invariant-loop-cell
invariant-loop-cell l = record {
  all : (q : Cell) → resaid (said_at l.said.items q) (held_at l.cells.entries q) ≡ resaid (said_at l.initial.said.items q) (held_at l.initial.cells.entries q);
  len : length l.cells.entries ≡ length l.initial.cells.entries;
}

abbrev pub decreases-loop-cell : goal.decreases-loop-cell
decreases-loop-cell l = length l.said.items
