use Rattle.std.proofs.Common.{◌∙◌, ap, subst, sym}
use Rattle.std.specs.Prelude.{fold}
use Rattle.cell_refs.specs.Areas.{cells_of}
use Rattle.solver_names.specs.Counts.{IsRising}
use Rattle.solver_names.specs.Texts.{with_cell}
use Rattle.solver_names.proofs.AreaCells.{all_cells, area_in_turn, one_area}
use Rattle.solver_names.proofs.cells.Cells.with_area.Goals as goal

pub place_among-place-requires : goal.place_among-place-requires
place_among-place-requires c = record { rising = subst IsRising (sym c.deref.ensures.value) c.self.invariant.rising }

pub invariant_of-result : goal.invariant_of-result
invariant_of-result c =
    rw (c.in_ok-push.ensures.items, c.in_ok-insert.ensures.items)
    (area_in_turn c.self.inside.areas.items c.self.inside.by_top.items c.args.area c.place_among-place.result c.self.invariant (record { on_sheet = c.top.ensures.on_sheet; sheet = c.sheet_number-sheet.ensures.few })
    (rw (← c.deref.ensures.value) c.place_among-place.ensures.within) (rw (← c.deref.ensures.value, ← c.top.ensures.value) c.place_among-place.ensures.before)
    (rw (← c.deref.ensures.value, ← c.top.ensures.value) c.place_among-place.ensures.behind))

pub returns : goal.returns
returns c =
    ap all_cells c.in_ok-push.ensures.items ∙ one_area c.self.inside.areas.items c.args.area ∙ ap (λ cells. fold with_cell cells (cells_of c.args.area)) c.self.view_is
