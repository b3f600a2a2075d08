use Rattle.std.specs.FinMap.{keys}
use Rattle.workbook.specs.Kinds.{book_of}
use Rattle.dep_table.proofs.OpenLaws.{is_past, passing}
use Rattle.needed_cells.specs.Finding.{is_open_within}
use Rattle.needed_cells.proofs.Texts.{IsGathered, IsSeen}
use Rattle.needed_cells.proofs.referred.add_of_texts.Given as goal

abbrev pub invariant-loop-cell : goal.invariant-loop-cell
invariant-loop-cell l = IsGathered (is_open_within (book_of l.book) l.adj l.area) l.fn.found.items (IsSeen (book_of l.book) l.after) l.found.items

abbrev pub decreases-loop-cell : goal.decreases-loop-cell
decreases-loop-cell l = passing (is_past l.after) (keys l.book.contents)
