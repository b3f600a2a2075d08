use Rattle.std.proofs.Common.{◌≡◌, map}
use Rattle.std.specs.Prelude.{fold}
use Rattle.std.specs.List.{range_with_len}
use Rattle.cell_refs.specs.Areas.{cell_at}
use Rattle.solver_names.specs.Texts.{with_cell}
use Rattle.named_cells.proofs.cells.put_all.Given as goal

-- the cells so far are put
abbrev pub invariant-loop-place : goal.invariant-loop-place
invariant-loop-place l = l.cells.keys ≡ fold with_cell l.initial.cells.keys (map (cell_at l.area) (range_with_len 0 l.place))
