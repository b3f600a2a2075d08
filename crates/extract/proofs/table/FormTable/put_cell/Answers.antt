use Rattle.std.proofs.Common.{◌∙◌, ap}
use Rattle.std.specs.FinMap.{from_entries}
use Rattle.cell_refs.specs.Cells.{is_same_cell}
use Rattle.cell_refs.proofs.Order.{cells_total, exact_cells}
use Rattle.cell_refs.specs.declared.place.Place.TheVariants as place
use Rattle.extract.specs.Tables.{Table, with_form}
use Rattle.cell_refs.proofs.SameCells.{same_cells, same_itself}
use Rattle.extract.proofs.Maps.{put_as}
use Rattle.extract.proofs.table.FormTable.put_cell.Goals as goal

pub returns-clause-ok : goal.returns-clause-ok
returns-clause-ok c =
    (λ i. record { cells = put_as cells_total exact_cells is_same_cell same_cells same_itself c.self.inside.cells.entries c.insert.new.self.entries c.args.cell c.args.form c.in-Ok.ensures.updates.0 i; sides = from_entries c.self.inside.sides.entries })
    ∙ ap (λ (t : Table). with_form t (place.Cell c.args.cell) c.args.form) c.self.view_is
