use Rattle.cell_grids.proofs.LookRows.{exchanged_parts}
use Rattle.cell_grids.proofs.reference.Reference.transpose.Goals as goal

pub invariant_of-result : goal.invariant_of-result
invariant_of-result c = exchanged_parts _ c.args.self.now c.in_ok-cells.cells.items c.self.view_is c.in_ok-cells.ensures c.self.invariant
