use Rattle.std.proofs.Common.{◌≡◌, ◌++◌, flat_map, take}
use Rattle.std.specs.Prelude.{option_to_list, slice_get}
use Rattle.form_calls.proofs.places.push_cells_at.Given as goal

-- the cells in the places so far, behind what was there
abbrev pub invariant-loop-place : goal.invariant-loop-place
invariant-loop-place l = l.to.items ≡ l.initial.to.items ++ flat_map (λ p. option_to_list (slice_get l.cells p)) (take l.place-index l.places)
