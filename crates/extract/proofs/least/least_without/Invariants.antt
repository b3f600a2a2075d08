-- The least of the cells from a place on.
use Rattle.std.proofs.Common.{◌≡◌, ◌≤◌, length, drop}
use Rattle.form_extraction.specs.Places.{least_without}
use Rattle.workbook.specs.Kinds.{book_of}
use Rattle.extract.specs.Knowing.{known_form}
use Rattle.extract.proofs.least.least_without.Given as goal

abbrev pub invariant-loop-place : goal.invariant-loop-place
invariant-loop-place l = (l.place ≤ length l.cells) × (l.least ≡ least_without (known_form (book_of l.known.book.now) l.known.adj.now l.known.table.now) (drop l.place l.cells))

abbrev pub decreases-loop-place : goal.decreases-loop-place
decreases-loop-place l = l.place
