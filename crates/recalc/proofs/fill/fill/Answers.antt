use Rattle.std.proofs.Common.{◌≡◌, Some, arith, subst, sym, ◌∙◌}
use Rattle.std.specs.Prelude.{slice_get, slice_index_or}
use Rattle.std.proofs.lemmas.Option.{slice_get-get_or}
use Rattle.cell_refs.specs.declared.cell.Cell.{Cell}
use Rattle.recalc.specs.Rows.{HasRow}
use Rattle.recalc.proofs.Members.{before_or_at, none_before, place_within, same_cell}
use Rattle.recalc.proofs.fill.fill.Goals as goal

abbrev here : Cell
here = record { sheet = record { 0 = 0 }; row = 0; col = 0 }

pub loop-cell-init : goal.loop-cell-init
loop-cell-init c = record { right = c.requires.right; table = c.in_ok-values.ensures.table; seen = c.in_ok-values.ensures.seen; kept = λ a h. h; filled = λ p a less at. none_before p less }

pub put_row-requires-clause-ready : goal.put_row-requires-clause-ready
put_row-requires-clause-ready c b refers formula =
    let found = c.requires.order.earlier c.loop-cell.cell-index _ b (slice_get-get_or c.args.order.now c.loop-cell.cell-index here c.loop-cell-test.true) refers formula in
    c.loop-cell.invariant.filled found.0 b found.1 found.2

pub put_row-requires-clause-right : goal.put_row-requires-clause-right
put_row-requires-clause-right c = c.loop-cell.invariant.right

pub put_row-requires-clause-table : goal.put_row-requires-clause-table
put_row-requires-clause-table c = c.loop-cell.invariant.table

pub put_row-requires-clause-seen : goal.put_row-requires-clause-seen
put_row-requires-clause-seen c = c.loop-cell.invariant.seen

pub loop-cell-preserved : goal.loop-cell-preserved
loop-cell-preserved c =
    let at : slice_get c.args.order.now c.loop-cell.cell-index ≡ Some (slice_index_or c.args.order.now c.loop-cell.cell-index here) =
    slice_get-get_or c.args.order.now c.loop-cell.cell-index here c.loop-cell-test.true in
    record {
      right = c.in_ok-put_row.ensures.right;
      table = c.in_ok-put_row.ensures.table;
      seen = c.in_ok-put_row.ensures.seen;
      kept = λ a h. c.in_ok-put_row.ensures.kept a (c.loop-cell.invariant.kept a h);
      filled = λ p a less there. before_or_at (λ q. (d : Cell) → slice_get c.args.order.now q ≡ Some d → HasRow c.put_row.new.rows.entries d) c.loop-cell.cell-index p less
          (λ q before d e. c.in_ok-put_row.ensures.kept d (c.loop-cell.invariant.filled q d before e))
          (λ d e. subst (HasRow c.put_row.new.rows.entries) (same_cell _ d (sym at ∙ e))
          (c.in_ok-put_row.ensures.filled (c.requires.order.formula c.loop-cell.cell-index _ at))) a there;
    }

pub returns-clause-right : goal.returns-clause-right
returns-clause-right c = c.loop-cell.invariant.right

pub returns-clause-kept : goal.returns-clause-kept
returns-clause-kept c = c.loop-cell.invariant.kept

pub returns-clause-filled : goal.returns-clause-filled
returns-clause-filled c p a at =
    let less = place_within c.args.order.now p a at in
    let end = c.loop-cell-test.false in
    c.loop-cell.invariant.filled p a (omega (arith, less, end)) at
