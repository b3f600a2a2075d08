use Rattle.std.proofs.Common.{arith}
use Rattle.cell_grids.proofs.AreaCells.{full_area}
use Rattle.cell_grids.proofs.reference.Reference.of_area.Goals as goal

pub invariant_of-result : goal.invariant_of-result
invariant_of-result c =
    let top = c.top.ensures.value in
    let bottom = c.bottom.ensures.value in
    let left = c.left.ensures.value in
    let right = c.right.ensures.value in
    full_area c.args.area.now _ _ c.push_cells.new.to.items (omega (arith, top, bottom)) (omega (arith, left, right)) (rw c.new-cells.ensures.items at c.in_ok-push_cells.ensures)
