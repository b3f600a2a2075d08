use Rattle.std.proofs.Common.{◌≡◌, ◌*◌, map}
use Rattle.sheet_funcs.specs.Arguments.{below}
use Rattle.form_calls.proofs.places.key_places.Given as goal

-- the places of the rows so far
abbrev pub invariant-loop-row : goal.invariant-loop-row
invariant-loop-row l = l.places.items ≡ map (λ row. row * l.columns) (below l.row)
