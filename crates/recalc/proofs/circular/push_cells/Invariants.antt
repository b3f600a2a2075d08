use Rattle.std.proofs.Common.{◌≡◌, ◌++◌, ◌≤◌, map}
use Rattle.std.specs.List.{range_with_len}
use Rattle.cell_refs.specs.Areas.{area_len, cell_at}
use Rattle.recalc.proofs.circular.push_cells.Given as goal

abbrev pub invariant-loop-place : goal.invariant-loop-place
invariant-loop-place l = record {
  so_far : l.cells.items ≡ l.fn.cells.items ++ map (cell_at l.area) (range_with_len 0 l.place);
  within : l.place ≤ area_len l.area;
}
