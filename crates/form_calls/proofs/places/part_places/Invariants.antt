use Rattle.std.proofs.Common.{◌≡◌, ◌-◌, ◌+◌, ◌*◌, flat_map, map}
use Rattle.std.specs.List.{range_with_len}
use Rattle.sheet_funcs.specs.Picks.{from_to}
use Rattle.form_calls.proofs.places.part_places.Given as goal

-- the places of the rows so far
abbrev pub invariant-loop-row : goal.invariant-loop-row
invariant-loop-row l = l.places.items ≡ flat_map (λ row. map (λ column. row * l.columns + column) (from_to l.left l.right)) (range_with_len l.top (l.row - l.top))
