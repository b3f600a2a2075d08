use Rattle.std.proofs.Common.{◌≡◌, ◌++◌, drop}
use Rattle.std.specs.Map.{keys_of}
use Rattle.workbook.proofs.renamed.cells_of.Given as goal

-- with those that are left all cells are there
abbrev pub invariant-loop-cell : goal.invariant-loop-cell
invariant-loop-cell l = l.cells.items ++ keys_of (drop l.cell-index l.said) ≡ keys_of l.said
