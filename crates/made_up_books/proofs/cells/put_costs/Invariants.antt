use Rattle.std.proofs.Common.{◌≡◌, ◌<◌, length}
use Rattle.std.specs.List.{flat_map}
use Rattle.made_up_books.specs.MadeUp.{below}
use Rattle.made_up_books.specs.Putting.{number_row, with_cells}
use Rattle.made_up_books.proofs.cells.put_costs.Given as goal

abbrev pub invariant-loop-row : goal.invariant-loop-row
invariant-loop-row l = record { cells : l.book ≡ with_cells l.initial.book (flat_map (number_row l.size l.costs) (below l.row)); listed : 0 < length l.book.sheets }
