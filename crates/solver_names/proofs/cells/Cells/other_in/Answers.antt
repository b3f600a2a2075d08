use Rattle.std.proofs.Common.{◌≡◌, ◌≤◌, ◌<◌, ◌∙◌, ℕ, true, ap, rules, subst, sym}
use Rattle.cell_refs.specs.Areas.{cells_of, right}
use Rattle.solver_names.specs.Counts.{IsRising, cell_of, is_covered}
use Rattle.solver_names.specs.Faults.{other_cell}
use Rattle.solver_names.proofs.AreaCells.{all_cells, other_behind}
use Rattle.solver_names.proofs.CellLists.{other_from, other_later}
use Rattle.solver_names.proofs.cells.Cells.other_in.Goals as goal

pub least_free_row-requires : goal.least_free_row-requires
least_free_row-requires c = record { rising = subst IsRising (sym c.deref.ensures.value) c.self.invariant.rising }

pub loop-place-init : goal.loop-place-init
loop-place-init c =
    let cells = all_cells c.self.inside.areas.items in
    let had = c.least_free_row.ensures.had in
    subst (λ cells. other_cell cells (cells_of c.args.area) ≡ other_from cells c.args.area c.first_place-start.result) c.self.view_is
    (other_behind c.self.inside.areas.items c.self.inside.by_top.items c.args.area c.least_free_row.result c.self.invariant c.least_free_row.ensures.from c.least_free_row.ensures.to
    (subst (λ areas. (row col : ℕ) → c.args.area.top ≤ row → row < c.least_free_row.result → c.args.area.left ≤ col → col ≤ right c.args.area → is_covered areas (cell_of c.args.area.sheet.0 col row) ≡ true) c.deref.ensures.value had)
    ∙ ap (other_from cells c.args.area) (sym c.first_place-start.ensures))

pub loop-place-preserved : goal.loop-place-preserved
loop-place-preserved c =
    other_later c.args.self.now c.args.area c.loop-place.place c.at-cell.result (search rules) c.at-cell.ensures (search rules) c.loop-place.invariant
