use Rattle.std.proofs.Common.{◌≡◌, ◌-◌, map}
use Rattle.std.specs.List.{flat_map, range_with_len}
use Rattle.sheet_funcs.specs.Arguments.{at}
use Rattle.sheet_funcs.specs.Picks.{from_to}
use Rattle.sheet_funcs.proofs.indexing.elements.Given as goal

-- the rows so far
abbrev pub invariant-loop-row : goal.invariant-loop-row
invariant-loop-row l = l.items.items ≡ flat_map (λ row. map (λ column. at l.grid row column) (from_to l.left l.right)) (range_with_len l.top (l.row - l.top))
