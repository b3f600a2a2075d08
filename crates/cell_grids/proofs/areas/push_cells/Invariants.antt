use Rattle.std.proofs.Common.{◌≡◌, ◌-◌, ◌*◌, ◌++◌, map}
use Rattle.std.specs.List.{range_with_len}
use Rattle.cell_refs.specs.Areas.{area_width, cell_at}
use Rattle.cell_grids.proofs.areas.push_cells.Given as goal

-- the cells of the rows so far behind what was there
abbrev pub invariant-loop-row : goal.invariant-loop-row
invariant-loop-row l = l.to.items ≡ l.fn.to.items ++ map (cell_at l.area) (range_with_len 0 ((l.row - l.area.top) * area_width l.area))
