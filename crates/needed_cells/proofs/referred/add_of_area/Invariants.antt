use Rattle.workbook.specs.Kinds.{book_of}
use Rattle.needed_cells.specs.Finding.{is_open_within}
use Rattle.needed_cells.proofs.Texts.{IsBefore, IsGathered}
use Rattle.needed_cells.proofs.referred.add_of_area.Given as goal

abbrev pub invariant-loop-place : goal.invariant-loop-place
invariant-loop-place l = IsGathered (is_open_within (book_of l.book) l.adj l.area) l.fn.found.items (IsBefore l.area l.place) l.found.items
