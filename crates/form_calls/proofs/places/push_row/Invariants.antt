use Rattle.std.proofs.Common.{◌≡◌, ◌-◌, ◌+◌, ◌*◌, ◌++◌, map}
use Rattle.std.specs.List.{range_with_len}
use Rattle.form_calls.proofs.places.push_row.Given as goal

-- the places of the columns so far
abbrev pub invariant-loop-column : goal.invariant-loop-column
invariant-loop-column l = l.to.items ≡ l.initial.to.items ++ map (λ column. l.row * l.columns + column) (range_with_len l.left (l.column - l.left))
