use Rattle.std.proofs.Common.{◌≡◌, ◌≤◌, ℕ, [], get_or}
use Rattle.std.specs.Vec.{vec_len}
use Rattle.recalc.proofs.places.Places.put.Given as goal

abbrev pub invariant-loop : goal.invariant-loop
invariant-loop l = (l.counter ≤ vec_len l.self-inside.sheets) × ((n : ℕ) → get_or l.self-inside.sheets.items n [] ≡ get_or l.initial.self-inside.sheets.items n [])
