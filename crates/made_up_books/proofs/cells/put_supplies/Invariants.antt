use Rattle.std.proofs.Common.{◌≡◌, ◌<◌, ◌+◌, length}
use Rattle.std.specs.List.{flat_map}
use Rattle.made_up_books.specs.MadeUp.{below}
use Rattle.made_up_books.specs.Putting.{supply_pair, with_cells}
use Rattle.made_up_books.proofs.cells.put_supplies.Given as goal

abbrev pub invariant-loop-supplier : goal.invariant-loop-supplier
invariant-loop-supplier l = record { cells : l.book ≡ with_cells l.initial.book (flat_map (λ i. supply_pair l.size (l.size + i)) (below l.supplier)); listed : 0 < length l.book.sheets }
