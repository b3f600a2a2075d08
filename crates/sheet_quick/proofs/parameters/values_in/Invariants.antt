use Rattle.std.proofs.Common.{◌≡◌, take}
use Rattle.workbook.specs.Kinds.{book_of}
use Rattle.sheet_quick.specs.Parameters as parameters
use Rattle.sheet_quick.proofs.parameters.values_in.Given as goal

-- the numbers of the cells so far
abbrev pub invariant-loop-cell : goal.invariant-loop-cell
invariant-loop-cell l = l.values.items ≡ parameters.values_in (book_of l.book) (take l.cell-index l.listed)
