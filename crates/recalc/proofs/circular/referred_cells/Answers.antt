use Rattle.std.proofs.Common.{◌++◌, ap, flat_map, sym, ◌∙◌}
use Rattle.std.specs.Prelude.{slice_index_or}
use Rattle.cell_refs.specs.Areas.{Area, cells_of}
use Rattle.recalc.proofs.Members.{all_taken, one_more_area}
use Rattle.recalc.proofs.circular.referred_cells.Goals as goal

pub loop-area-init : goal.loop-area-init
loop-area-init c = c.new-cells.ensures.items

pub loop-area-preserved : goal.loop-area-preserved
loop-area-preserved c =
    c.in_ok-push_cells.ensures ∙ ap (λ (x : Area). c.loop-area.cells.items ++ cells_of x) c.area-item.is
    ∙ ap (λ l. l ++ cells_of (slice_index_or c.deref-area-items.result.now c.loop-area.area-index c.area-item.result)) c.loop-area.invariant
    ∙ sym (one_more_area c.deref-area-items.result.now c.loop-area.area-index c.area-item.result c.loop-area-test.true)

pub returns : goal.returns
returns c =
    let end = c.loop-area-test.false in
    c.loop-area.invariant ∙ ap (flat_map cells_of) (all_taken c.deref-area-items.result.now c.loop-area.area-index end)
    ∙ ap (flat_map cells_of) (c.deref-area-items.ensures.value ∙ c.in-Ok.ensures)
