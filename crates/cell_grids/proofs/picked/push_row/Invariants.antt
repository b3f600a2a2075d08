use Rattle.std.proofs.Common.{◌≡◌, ◌-◌, ◌++◌, flat_map}
use Rattle.std.specs.List.{range_with_len}
use Rattle.recalculation.specs.Looks.{cell_in}
use Rattle.cell_grids.proofs.picked.push_row.Given as goal

-- the cells of the columns so far
abbrev pub invariant-loop-column : goal.invariant-loop-column
invariant-loop-column l = l.to.items ≡ l.initial.to.items ++ flat_map (λ column. cell_in l.grid l.row column) (range_with_len l.left (l.column - l.left))
