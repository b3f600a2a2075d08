-- The cells so far have their forms.
use Rattle.std.proofs.Common.{◌≡◌, ◌<◌, ℕ, Some}
use Rattle.std.specs.Prelude.{IsSome, slice_get}
use Rattle.cell_refs.specs.declared.cell.Cell.{Cell}
use Rattle.needed_forms.specs.FromExtract.{form_at}
use Rattle.extract_incr.specs.Settling.{Goes, kept_in}
use Rattle.workbook.specs.Kinds.{book_of}
use Rattle.cell_refs.specs.declared.place.Place.TheVariants as place
use Rattle.extract_incr.proofs.settle.settle_circular.Given as goal

abbrev pub invariant-loop-cell : goal.invariant-loop-cell
invariant-loop-cell l =
    Goes (book_of l.book) (kept_in l.adj l.sides l.initial.table) (kept_in l.adj l.sides l.table)
    × ((p : ℕ) (a : Cell) → p < l.cell-index → slice_get l.cells p ≡ Some a → IsSome (form_at l.table (place.Cell a)))
