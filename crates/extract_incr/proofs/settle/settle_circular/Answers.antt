use Rattle.std.proofs.Common.{◌≡◌, Some, arith, subst, sym, ◌∙◌}
use Rattle.std.specs.Prelude.{IsSome, slice_get, slice_index_or}
use Rattle.std.proofs.lemmas.Option.{slice_get-get_or}
use Rattle.cell_refs.specs.declared.cell.Cell.{Cell}
use Rattle.needed_forms.specs.FromExtract.{form_at}
use Rattle.workbook.specs.Kinds.{book_of}
use Rattle.cell_refs.specs.declared.place.Place.TheVariants as place
use Rattle.extract_incr.specs.Settling.{kept_in}
use Rattle.extract_incr.proofs.Counting.{before_or_at, none_before, there_below}
use Rattle.extract_incr.proofs.Settling.{goes_itself, goes_on, still_some, the_same}
use Rattle.extract_incr.proofs.settle.settle_circular.Goals as goal

abbrev here : Cell
here = record { sheet = record { 0 = 0 }; row = 0; col = 0 }

pub loop-cell-init : goal.loop-cell-init
loop-cell-init c = (goes_itself (book_of c.args.book.now) (kept_in c.args.adj.now c.args.sides.now c.args.table.now) c.requires.kept, λ p a less at. none_before p less)

pub settle_circular_cell-requires-clause-circular : goal.settle_circular_cell-requires-clause-circular
settle_circular_cell-requires-clause-circular c = c.requires.circular c.loop-cell.cell-index _ (slice_get-get_or c.args.cells.now c.loop-cell.cell-index here c.loop-cell-test.true)

pub settle_circular_cell-requires-clause-kept : goal.settle_circular_cell-requires-clause-kept
settle_circular_cell-requires-clause-kept c = c.loop-cell.invariant.0.kept

pub loop-cell-preserved : goal.loop-cell-preserved
loop-cell-preserved c =
    let at : slice_get c.args.cells.now c.loop-cell.cell-index ≡ Some (slice_index_or c.args.cells.now c.loop-cell.cell-index here) = slice_get-get_or c.args.cells.now c.loop-cell.cell-index here c.loop-cell-test.true in (
      goes_on (book_of c.args.book.now) (kept_in c.args.adj.now c.args.sides.now c.args.table.now) (kept_in c.args.adj.now c.args.sides.now c.loop-cell.table) (kept_in c.args.adj.now c.args.sides.now c.settle_circular_cell.new.table)
          c.loop-cell.invariant.0 c.in_ok-settle_circular_cell.ensures.goes,
      λ p a less there. before_or_at (λ q. (d : Cell) → slice_get c.args.cells.now q ≡ Some d → IsSome (form_at c.settle_circular_cell.new.table (place.Cell d))) c.loop-cell.cell-index p less
          (λ q before d e. still_some (book_of c.args.book.now) c.args.adj.now c.args.sides.now c.loop-cell.table c.settle_circular_cell.new.table c.in_ok-settle_circular_cell.ensures.goes (place.Cell d) (c.loop-cell.invariant.1 q d before e))
          (λ d e. subst (λ b. IsSome (form_at c.settle_circular_cell.new.table (place.Cell b))) (the_same _ d (sym at ∙ e)) c.in_ok-settle_circular_cell.ensures.there) a there,
    )

pub returns-in_err-settle_circular_cell-clause-goes : goal.returns-in_err-settle_circular_cell-clause-goes
returns-in_err-settle_circular_cell-clause-goes c =
    goes_on (book_of c.args.book.now) (kept_in c.args.adj.now c.args.sides.now c.args.table.now) (kept_in c.args.adj.now c.args.sides.now c.loop-cell.table) (kept_in c.args.adj.now c.args.sides.now c.settle_circular_cell.new.table)
    c.loop-cell.invariant.0 c.in_err-settle_circular_cell.ensures.goes

pub returns-clause-goes : goal.returns-clause-goes
returns-clause-goes c = c.loop-cell.invariant.0

pub returns-clause-there : goal.returns-clause-there
returns-clause-there c = λ p a at. c.loop-cell.invariant.1 p a (let r = there_below c.args.cells.now p a at in omega (arith, r, c.loop-cell-test.false)) at
