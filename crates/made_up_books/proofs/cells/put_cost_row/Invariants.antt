use Rattle.std.proofs.Common.{◌≡◌, ◌<◌, ◌+◌, ◌*◌, length, map}
use Rattle.std.specs.Prelude.{decimal, slice_index}
use Rattle.made_up_books.specs.MadeUp.{at, below}
use Rattle.made_up_books.specs.Putting.{with_cells}
use Rattle.made_up_books.proofs.cells.put_cost_row.Given as goal

abbrev pub invariant-loop-col : goal.invariant-loop-col
invariant-loop-col l = record { cells : l.book ≡ with_cells l.initial.book (map (λ j. at l.row j (decimal (slice_index l.costs (l.row * l.size + j)))) (below l.col)); listed : 0 < length l.book.sheets }
