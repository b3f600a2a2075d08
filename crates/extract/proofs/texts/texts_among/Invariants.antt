-- The set of the cells so far.
use Rattle.std.proofs.Common.{◌≡◌, filter, take}
use Rattle.std.specs.FinSet as set
use Rattle.workbook.specs.Kinds.{book_of}
use Rattle.extract.specs.Knowing.{is_open_text}
use Rattle.extract.proofs.texts.texts_among.Given as goal

abbrev pub invariant-loop-cell : goal.invariant-loop-cell
invariant-loop-cell l = l.found ≡ set.from_list (filter (is_open_text (book_of l.book) l.adj) (take l.cell-index l.cells))
