use Rattle.std.proofs.Common.{◌≡◌, flat_map}
use Rattle.sheet_funcs.specs.Arguments.{below}
use Rattle.recalculation.specs.Looks.{column_cells}
use Rattle.cell_grids.proofs.columns.exchanged_cells.Given as goal

-- the columns so far
abbrev pub invariant-loop-column : goal.invariant-loop-column
invariant-loop-column l = l.cells.items ≡ flat_map (column_cells l.grid) (below l.column)
