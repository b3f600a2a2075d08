use Rattle.std.proofs.Common.{◌+◌, length}
use Rattle.std.specs.FinMap.{keys}
use Rattle.cell_refs.specs.declared.cell.Cell.{Cell}
use Rattle.needed_cells.specs.Finding.{Has, IsSpreading, asked, not_found}
use Rattle.needed_cells.proofs.needed.spread.Given as goal

abbrev pub invariant-loop-cell : goal.invariant-loop-cell
invariant-loop-cell l = record {
  spreads : IsSpreading (asked l.sheet.book.now l.sheet.sides.now l.sheet.adj.now l.sheet.roots.now) l.found l.pending.items;
  kept : (c : Cell) → Has l.fn.found c → Has l.found c;
}

abbrev pub decreases-loop-cell : goal.decreases-loop-cell
decreases-loop-cell l = not_found (keys l.sheet.book.now.contents) l.found + length l.pending.items
