use Rattle.std.proofs.Common.{◌∙◌, ap}
use Rattle.std.specs.FinMap.{from_entries}
use Rattle.cell_refs.specs.Cells.{is_same_cell}
use Rattle.cell_refs.proofs.Order.{cells_total, exact_cells}
use Rattle.cell_refs.specs.declared.place.Place.TheVariants as place
use Rattle.extract.specs.Tables.{Table, without}
use Rattle.cell_refs.proofs.SameCells.{same_cells, same_itself}
use Rattle.extract.proofs.Maps.{taken_as}
use Rattle.extract.proofs.table.FormTable.take_cell.Goals as goal

pub returns : goal.returns
returns c =
    (λ i. record { cells = taken_as cells_total exact_cells is_same_cell same_cells same_itself c.self.inside.cells.entries c.swap_remove.new.self.entries c.args.cell c.swap_remove.ensures.updates.0 i; sides = from_entries c.self.inside.sides.entries })
    ∙ ap (λ (t : Table). without t (place.Cell c.args.cell)) c.self.view_is
