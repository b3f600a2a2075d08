use Rattle.std.specs.Prelude.{All}
use Rattle.std.proofs.Common.{take}
use Rattle.needed_cells.specs.Finding.{IsSpreading, IsStarted, asked}
use Rattle.needed_cells.proofs.needed.start.Given as goal

abbrev pub invariant-loop-root : goal.invariant-loop-root
invariant-loop-root l = record {
  spreads : IsSpreading (asked l.sheet.book.now l.sheet.sides.now l.sheet.adj.now l.sheet.roots.now) l.found l.pending.items;
  started : All (IsStarted (asked l.sheet.book.now l.sheet.sides.now l.sheet.adj.now l.sheet.roots.now) l.found) (take l.root-index l.sheet.roots.now);
}
