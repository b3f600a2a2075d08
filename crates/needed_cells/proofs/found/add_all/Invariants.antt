use Rattle.std.proofs.Common.{take}
use Rattle.needed_cells.specs.Finding.{AreAdded}
use Rattle.needed_cells.proofs.found.add_all.Given as goal

abbrev pub invariant-loop-cell : goal.invariant-loop-cell
invariant-loop-cell l = AreAdded (take l.cell-index l.cells) l.fn.found l.fn.pending.items l.found l.pending.items
