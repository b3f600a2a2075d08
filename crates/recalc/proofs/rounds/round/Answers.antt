use Rattle.std.proofs.Common.{◌≡◌, Some, arith, subst, sym, ◌∙◌}
use Rattle.std.specs.Prelude.{slice_get, slice_index_or}
use Rattle.std.proofs.lemmas.Option.{slice_get-get_or}
use Rattle.cell_refs.specs.declared.cell.Cell.{Cell}
use Rattle.recalc.specs.Rounds.{HasValue}
use Rattle.workbook.specs.Kinds.{book_of}
use Rattle.recalc.proofs.Members.{before_or_at, none_before, place_within, same_cell}
use Rattle.recalc.proofs.rounds.round.Goals as goal

abbrev here : Cell
here = record { sheet = record { 0 = 0 }; row = 0; col = 0 }

pub loop-cell-init : goal.loop-cell-init
loop-cell-init g c p a less there = none_before p less

pub loop-cell-preserved : goal.loop-cell-preserved
loop-cell-preserved g c p a less there =
    let at : slice_get c.args.formulas.now c.loop-cell.cell-index ≡ Some (slice_index_or c.args.formulas.now c.loop-cell.cell-index here) =
    slice_get-get_or c.args.formulas.now c.loop-cell.cell-index here c.loop-cell-test.true in
    before_or_at (λ q. (d : Cell) → slice_get c.args.formulas.now q ≡ Some d → HasValue (book_of c.args.book.now) (g.C.Cells.known c.args.before.now) c.put_value.new.rows.entries d)
    c.loop-cell.cell-index p less
    (λ q before d e. c.in_ok-put_value.ensures.kept d (c.loop-cell.invariant q d before e))
    (λ d e. subst (HasValue (book_of c.args.book.now) (g.C.Cells.known c.args.before.now) c.put_value.new.rows.entries) (same_cell _ d (sym at ∙ e)) c.in_ok-put_value.ensures.put)
    a there

pub returns : goal.returns
returns g c a formula =
    let found = c.requires.all a formula in
    let less = place_within c.args.formulas.now found.0 a found.1 in
    let end = c.loop-cell-test.false in
    c.loop-cell.invariant found.0 a (omega (arith, less, end)) found.1
