use Rattle.std.proofs.Common.{◌≡◌, map}
use Rattle.std.specs.List.{range_with_len}
use Rattle.cell_refs.specs.Areas.{cell_at}
use Rattle.solver_names.specs.Stated.{numbers_of}
use Rattle.solver_names.proofs.groups.numbers_of.Given as goal

-- the numbers of the cells so far
abbrev pub invariant-loop-place : goal.invariant-loop-place
invariant-loop-place l = l.numbers.items ≡ numbers_of l.decisions (map (cell_at l.area) (range_with_len 0 l.place))
