-- The sides so far have their forms, for as many steps as there are forms to be made less.
use Rattle.std.proofs.Common.{◌≡◌, ◌<◌, ◌≤◌, ◌+◌, ℕ, Some}
use Rattle.std.specs.Prelude.{IsSome, slice_get}
use Rattle.needed_forms.specs.FromExtract.{form_at}
use Rattle.formula_ast.specs.Tree.{Tree}
use Rattle.extract_incr.specs.Settling.{Goes, kept_in, unmade}
use Rattle.workbook.specs.Kinds.{book_of}
use Rattle.cell_refs.specs.declared.place.Place.TheVariants as place
use Rattle.extract_incr.proofs.settle.settle_sides.Given as goal

abbrev pub invariant-loop-side : goal.invariant-loop-side
invariant-loop-side g l =
    Goes (book_of l.book) (kept_in l.adj l.sides l.initial.table) (kept_in l.adj l.sides l.table)
    × ((p : ℕ) (s : ℕ × Tree) → p < l.side-index → slice_get l.sides p ≡ Some s → IsSome (form_at l.table (place.Side s.0)))
    × (l.initial.steps ≤ l.steps)
    × (l.steps + unmade (book_of l.book) (kept_in l.adj l.sides l.table) ≤ l.initial.steps + unmade (book_of l.book) (kept_in l.adj l.sides l.initial.table))
