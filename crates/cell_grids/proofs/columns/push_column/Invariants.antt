use Rattle.std.proofs.Common.{◌≡◌, ◌++◌, flat_map}
use Rattle.sheet_funcs.specs.Arguments.{below}
use Rattle.recalculation.specs.Looks.{cell_in}
use Rattle.cell_grids.proofs.columns.push_column.Given as goal

-- the cells of the rows so far
abbrev pub invariant-loop-row : goal.invariant-loop-row
invariant-loop-row l = l.to.items ≡ l.initial.to.items ++ flat_map (λ row. cell_in l.grid row l.column) (below l.row)
