use Rattle.std.proofs.Common.{◌≡◌, ◌+◌, Some, arith, subst, sym, ◌∙◌}
use Rattle.std.specs.Prelude.{slice_get, slice_index_or, not, is_some, ◌&&◌}
use Rattle.std.proofs.lemmas.Option.{slice_get-get_or}
use Rattle.cell_refs.specs.declared.cell.Cell.{Cell}
use Rattle.recalculation.specs.Entries.{entry}
use Rattle.recalculation.specs.Walks.{refers}
use Rattle.workbook.specs.Kinds.{book_of}
use Rattle.cell_refs.specs.declared.place.Place.TheVariants as place
use Rattle.extract_incr.specs.Settling.{IsThere, kept_in, unmade}
use Rattle.extract_incr.proofs.Counting.{before_or_at, there_below}
use Rattle.extract_incr.proofs.Settling.{goes_on, still_some, the_same, within_both}
use Rattle.extract_incr.proofs.settle.settle_order.Goals as goal

abbrev here : Cell
here = record { sheet = record { 0 = 0 }; row = 0; col = 0 }

pub settle_cell-requires-clause-ready : goal.settle_cell-requires-clause-ready
settle_cell-requires-clause-ready g c = λ undecided b refer has.
    let found = c.requires.order.earlier c.loop-cell.cell-index _ b (slice_get-get_or c.args.order.now c.loop-cell.cell-index here c.loop-cell-test.true)
    ((λ i. not (is_some (undecided i)) && refers (entry (book_of c.args.book.now) (slice_index_or c.args.order.now c.loop-cell.cell-index here)) b) ∙ refer) has.0 in
    c.loop-cell.invariant.1 found.0 b found.1 found.2 has

pub loop-cell-preserved : goal.loop-cell-preserved
loop-cell-preserved g c =
    let at : slice_get c.args.order.now c.loop-cell.cell-index ≡ Some (slice_index_or c.args.order.now c.loop-cell.cell-index here) = slice_get-get_or c.args.order.now c.loop-cell.cell-index here c.loop-cell-test.true in (
      goes_on (book_of c.args.book.now) (kept_in c.args.adj.now c.args.sides.now c.args.table.now) (kept_in c.args.adj.now c.args.sides.now c.loop-cell.table) (kept_in c.args.adj.now c.args.sides.now c.settle_cell.new.table)
          c.loop-cell.invariant.0 c.in_ok-settle_cell.ensures.goes,
      λ p a less there. before_or_at (λ q. (d : Cell) → slice_get c.args.order.now q ≡ Some d → IsThere (book_of c.args.book.now) (kept_in c.args.adj.now c.args.sides.now c.settle_cell.new.table) (place.Cell d)) c.loop-cell.cell-index p less
          (λ q before d e has. still_some (book_of c.args.book.now) c.args.adj.now c.args.sides.now c.loop-cell.table c.settle_cell.new.table c.in_ok-settle_cell.ensures.goes (place.Cell d) (c.loop-cell.invariant.1 q d before e has))
          (λ d e. subst (λ b. IsThere (book_of c.args.book.now) (kept_in c.args.adj.now c.args.sides.now c.settle_cell.new.table) (place.Cell b)) (the_same _ d (sym at ∙ e)) c.in_ok-settle_cell.ensures.there) a there,
      within_both c.args.steps.now c.loop-cell.steps c.settle_cell.new.steps c.loop-cell.invariant.2 c.in_ok-settle_cell.ensures.counted,
      within_both (c.settle_cell.new.steps + unmade (book_of c.args.book.now) (kept_in c.args.adj.now c.args.sides.now c.settle_cell.new.table)) (c.loop-cell.steps + unmade (book_of c.args.book.now) (kept_in c.args.adj.now c.args.sides.now c.loop-cell.table))
          (c.args.steps.now + unmade (book_of c.args.book.now) (kept_in c.args.adj.now c.args.sides.now c.args.table.now)) c.in_ok-settle_cell.ensures.ok c.loop-cell.invariant.3,
    )

pub returns-clause-there : goal.returns-clause-there
returns-clause-there g c = λ p a at. c.loop-cell.invariant.1 p a (let r = there_below c.args.order.now p a at in omega (arith, r, c.loop-cell-test.false)) at

pub returns-in_err-settle_cell-clause-goes : goal.returns-in_err-settle_cell-clause-goes
returns-in_err-settle_cell-clause-goes g c =
    goes_on (book_of c.args.book.now) (kept_in c.args.adj.now c.args.sides.now c.args.table.now) (kept_in c.args.adj.now c.args.sides.now c.loop-cell.table) (kept_in c.args.adj.now c.args.sides.now c.settle_cell.new.table)
    c.loop-cell.invariant.0 c.in_err-settle_cell.ensures.goes
