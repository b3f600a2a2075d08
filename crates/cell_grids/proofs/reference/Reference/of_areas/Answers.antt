use Rattle.cell_grids.proofs.AreaCells.{some_in_all}
use Rattle.cell_grids.proofs.reference.Reference.of_areas.Goals as goal

pub in_column-requires : goal.in_column-requires
in_column-requires c = rw c.in_ok-all_cells.ensures (some_in_all c.args.areas.now c.requires)
