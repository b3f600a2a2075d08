use Rattle.std.proofs.Common.{◌≡◌, ◌<◌, ◌+◌, length, map}
use Rattle.std.specs.Prelude.{codes}
use Rattle.made_up_books.specs.MadeUp.{at, below}
use Rattle.made_up_books.specs.Putting.{with_cells}
use Rattle.made_up_books.proofs.cells.put_sent_row.Given as goal

abbrev pub invariant-loop-col : goal.invariant-loop-col
invariant-loop-col l = record { cells : l.book ≡ with_cells l.initial.book (map (λ j. at (l.size + l.supplier) j (codes "0")) (below l.col)); listed : 0 < length l.book.sheets }
