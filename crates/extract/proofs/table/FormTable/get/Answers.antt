use Rattle.std.proofs.Common.{◌∙◌, sym, ap}
use Rattle.std.specs.FinMap.{get, nat_cmp-IsAntisymmetric}
use Rattle.std.specs.Cmp.{nat_cmp_total}
use Rattle.cell_refs.specs.Cells.{is_same_cell}
use Rattle.cell_refs.proofs.Order.{cells_total, exact_cells}
use Rattle.std.specs.Prelude.{◌==◌}
use Rattle.extract.specs.Tables.{Table, form_at}
use Rattle.cell_refs.proofs.SameCells.{same_cells, same_itself}
use Rattle.extract.proofs.Maps.{get_as, same_numbers, number_itself}
use Rattle.extract.proofs.table.FormTable.get.Goals as goal

pub returns-in-Cell : goal.returns-in-Cell
returns-in-Cell c =
    c.get.ensures.value ∙ sym (get_as cells_total exact_cells is_same_cell same_cells same_itself c.self.inside.cells.entries c.in-Cell.cell)
    ∙ ap (λ (t : Table). get t.cells c.in-Cell.cell) c.self.view_is ∙ ap (form_at c.args.self.now) (sym c.in-Cell.is)

pub returns-in-Side : goal.returns-in-Side
returns-in-Side c =
    c.get-in-Side.ensures.value ∙ sym (get_as nat_cmp_total nat_cmp-IsAntisymmetric (λ a b. a == b) same_numbers number_itself c.self.inside.sides.entries c.in-Side.number)
    ∙ ap (λ (t : Table). get t.sides c.in-Side.number) c.self.view_is ∙ ap (form_at c.args.self.now) (sym c.in-Side.is)
