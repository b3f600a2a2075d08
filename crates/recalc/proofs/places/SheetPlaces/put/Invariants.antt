use Rattle.std.proofs.Common.{◌≡◌, ◌≤◌, ℕ, [], get_or}
use Rattle.std.specs.Vec.{vec_len}
use Rattle.recalc.proofs.places.SheetPlaces.put.Given as goal

abbrev pub invariant-loop : goal.invariant-loop
invariant-loop l = (l.counter ≤ vec_len l.self-inside.rows) × ((n : ℕ) → get_or l.self-inside.rows.items n [] ≡ get_or l.initial.self-inside.rows.items n [])
