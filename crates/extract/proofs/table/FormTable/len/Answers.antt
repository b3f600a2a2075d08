use Rattle.std.proofs.Common.{◌∙◌, ◌+◌, sym, ap, ap₂}
use Rattle.std.specs.FinMap.{nat_cmp-IsAntisymmetric}
use Rattle.std.specs.Cmp.{nat_cmp_total}
use Rattle.std.specs.Prelude.{◌==◌}
use Rattle.cell_refs.specs.Cells.{is_same_cell}
use Rattle.cell_refs.proofs.Order.{cells_total, exact_cells}
use Rattle.extract.specs.Tables.{form_count}
use Rattle.cell_refs.proofs.SameCells.{same_cells, same_itself}
use Rattle.extract.proofs.Maps.{length_as, same_numbers, number_itself}
use Rattle.extract.proofs.table.FormTable.len.Goals as goal

pub returns : goal.returns
returns c =
    ap₂ ◌+◌
    (c.len.ensures.len ∙ sym (length_as cells_total exact_cells is_same_cell same_cells same_itself c.self.inside.cells.entries c.len.ensures.unique))
    (c.len-2.ensures.len ∙ sym (length_as nat_cmp_total nat_cmp-IsAntisymmetric (λ a b. a == b) same_numbers number_itself c.self.inside.sides.entries c.len-2.ensures.unique))
    ∙ ap form_count c.self.view_is
