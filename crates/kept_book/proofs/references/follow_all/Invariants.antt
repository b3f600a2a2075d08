use Rattle.std.proofs.Common.{drop}
use Rattle.kept_book.specs.References.{AreKeptBut}
use Rattle.kept_book.proofs.references.follow_all.Given as goal

-- the references of all but the cells that are left are kept
abbrev pub invariant-loop-cell : goal.invariant-loop-cell
invariant-loop-cell l = AreKeptBut (drop l.cell-index l.cells) l.book l.deps
