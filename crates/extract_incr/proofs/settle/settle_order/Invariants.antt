-- The cells so far have their forms, for as many steps as there are forms to be made less.
use Rattle.std.proofs.Common.{◌≡◌, ◌<◌, ◌≤◌, ◌+◌, ℕ, Some}
use Rattle.std.specs.Prelude.{slice_get}
use Rattle.cell_refs.specs.declared.cell.Cell.{Cell}
use Rattle.extract_incr.specs.Settling.{Goes, IsThere, kept_in, unmade}
use Rattle.workbook.specs.Kinds.{book_of}
use Rattle.cell_refs.specs.declared.place.Place.TheVariants as place
use Rattle.extract_incr.proofs.settle.settle_order.Given as goal

abbrev pub invariant-loop-cell : goal.invariant-loop-cell
invariant-loop-cell g l =
    Goes (book_of l.book) (kept_in l.adj l.sides l.initial.table) (kept_in l.adj l.sides l.table)
    × ((p : ℕ) (a : Cell) → p < l.cell-index → slice_get l.order p ≡ Some a → IsThere (book_of l.book) (kept_in l.adj l.sides l.table) (place.Cell a))
    × (l.initial.steps ≤ l.steps)
    × (l.steps + unmade (book_of l.book) (kept_in l.adj l.sides l.table) ≤ l.initial.steps + unmade (book_of l.book) (kept_in l.adj l.sides l.initial.table))
