use Rattle.std.proofs.Common.{◌≡◌, ◌<◌, length}
use Rattle.std.specs.List.{flat_map}
use Rattle.made_up_books.specs.MadeUp.{below}
use Rattle.made_up_books.specs.Putting.{sent_row, with_cells}
use Rattle.made_up_books.proofs.cells.put_sent.Given as goal

abbrev pub invariant-loop-supplier : goal.invariant-loop-supplier
invariant-loop-supplier l = record { cells : l.book ≡ with_cells l.initial.book (flat_map (sent_row l.size) (below l.supplier)); listed : 0 < length l.book.sheets }
