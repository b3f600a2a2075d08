use Rattle.std.proofs.Common.{◌≡◌, ◌-◌, ◌++◌}
use Rattle.cell_grids.specs.AreaRows.{first_of_row}
use Rattle.cell_grids.proofs.areas.push_row.Given as goal

-- the cells of the row so far behind what was there
abbrev pub invariant-loop-col : goal.invariant-loop-col
invariant-loop-col l = l.to.items ≡ l.initial.to.items ++ first_of_row l.area l.row (l.col - l.area.left)
