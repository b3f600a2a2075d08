use Rattle.std.proofs.Common.{◌≡◌, ◌≤◌, ℕ, get_or}
use Rattle.std.specs.Vec.{vec_len}
use Rattle.recalc.proofs.places.RowPlaces.put.Given as goal

abbrev pub invariant-loop : goal.invariant-loop
invariant-loop l = (l.counter ≤ vec_len l.self-inside.places) × ((c : ℕ) → get_or l.self-inside.places.items c 0 ≡ get_or l.initial.self-inside.places.items c 0)
