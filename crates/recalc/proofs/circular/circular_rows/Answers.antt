use Rattle.std.proofs.Common.{◌≡◌, Some, true, ap, arith, subst, sym, ◌∙◌}
use Rattle.std.specs.FinSet as set
use Rattle.std.specs.Prelude.{slice_get, slice_index_or}
use Rattle.std.proofs.lemmas.Option.{slice_get-get_or}
use Rattle.cell_refs.specs.declared.cell.Cell.{Cell}
use Rattle.cell_refs.specs.Cells.{cell_cmp}
use Rattle.recalc.specs.Rows.{HasRow}
use Rattle.recalc.proofs.Members.{before_or_at, member_place, no_rows, none_before, place_member, same_cell}
use Rattle.recalc.proofs.circular.circular_rows.Goals as goal

abbrev here : Cell
here = record { sheet = record { 0 = 0 }; row = 0; col = 0 }

pub loop-cell-init : goal.loop-cell-init
loop-cell-init c = record { right = no_rows _ c.args.keeps_looks c.new-rows.result.entries c.new-rows.ensures.empty; filled = λ p a less at. none_before p less }

pub put_circular-requires-clause-circular : goal.put_circular-requires-clause-circular
put_circular-requires-clause-circular c =
    let at = slice_get-get_or c.as_slice-cell-items.result.now c.loop-cell.cell-index here c.loop-cell-test.true in
    c.requires _
    (ap (λ s. set.contains s (slice_index_or c.as_slice-cell-items.result.now c.loop-cell.cell-index here)) (sym c.in_ok-cells.ensures.all)
    ∙ ap (λ l. set.contains (set.from_list {R = cell_cmp} l) (slice_index_or c.as_slice-cell-items.result.now c.loop-cell.cell-index here)) (sym c.as_slice-cell-items.ensures.value)
    ∙ place_member c.as_slice-cell-items.result.now c.loop-cell.cell-index _ at)

pub put_circular-requires-clause-right : goal.put_circular-requires-clause-right
put_circular-requires-clause-right c = c.loop-cell.invariant.right

pub loop-cell-preserved : goal.loop-cell-preserved
loop-cell-preserved c =
    let at : slice_get c.as_slice-cell-items.result.now c.loop-cell.cell-index ≡ Some (slice_index_or c.as_slice-cell-items.result.now c.loop-cell.cell-index here) =
    slice_get-get_or c.as_slice-cell-items.result.now c.loop-cell.cell-index here c.loop-cell-test.true in
    record {
      right = c.in_ok-put_circular.ensures.right;
      filled = λ p a less there. before_or_at (λ q. (d : Cell) → slice_get c.as_slice-cell-items.result.now q ≡ Some d → HasRow c.put_circular.new.rows.entries d)
          c.loop-cell.cell-index p less
          (λ q before d e. c.in_ok-put_circular.ensures.kept d (c.loop-cell.invariant.filled q d before e))
          (λ d e. subst (HasRow c.put_circular.new.rows.entries) (same_cell _ d (sym at ∙ e)) c.in_ok-put_circular.ensures.put) a there;
    }

pub returns-clause-right : goal.returns-clause-right
returns-clause-right c = c.loop-cell.invariant.right

pub returns-clause-all : goal.returns-clause-all
returns-clause-all c a circular =
    let has : set.contains (set.from_list {R = cell_cmp} c.as_slice-cell-items.result.now) a ≡ true =
    ap (λ l. set.contains (set.from_list {R = cell_cmp} l) a) c.as_slice-cell-items.ensures.value ∙ ap (λ s. set.contains s a) c.in_ok-cells.ensures.all ∙ circular in
    let found = member_place c.as_slice-cell-items.result.now a has in
    let end = c.loop-cell-test.false in
    c.loop-cell.invariant.filled found.0 a (omega (arith, found.1, end)) found.2
