use Rattle.std.proofs.Common.{◌≡◌, ◌<◌, length}
use Rattle.std.specs.Prelude.{slice_index}
use Rattle.std.specs.List.{flat_map}
use Rattle.made_up_books.specs.MadeUp.{below}
use Rattle.made_up_books.specs.Putting.{demand_pair, with_cells}
use Rattle.made_up_books.proofs.cells.put_demands.Given as goal

abbrev pub invariant-loop-col : goal.invariant-loop-col
invariant-loop-col l = record { cells : l.book ≡ with_cells l.initial.book (flat_map (λ j. demand_pair l.size j (slice_index l.demands j)) (below l.col)); listed : 0 < length l.book.sheets }
