use Rattle.std.proofs.Common.{◌≡◌, ◌-◌, ◌++◌, flat_map}
use Rattle.std.specs.List.{range_with_len}
use Rattle.sheet_funcs.specs.Picks.{from_to}
use Rattle.recalculation.specs.Looks.{cell_in}
use Rattle.cell_grids.proofs.picked.push_picked.Given as goal

-- the cells of the rows so far
abbrev pub invariant-loop-row : goal.invariant-loop-row
invariant-loop-row l = l.to.items ≡ l.initial.to.items ++ flat_map (λ row. flat_map (λ column. cell_in l.grid row column) (from_to l.left l.right)) (range_with_len l.top (l.row - l.top))
