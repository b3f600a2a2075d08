use Rattle.std.proofs.Common.{◌≡◌, ℕ, ◌<◌, length}
use Rattle.fractions.specs.Vectors.{at}
use Rattle.branch_bound.proofs.answer.numbers_in.Given as goal

abbrev pub invariant-loop-place : goal.invariant-loop-place
invariant-loop-place l = record { size : length l.room.items ≡ length l.from; same : (i : ℕ) → i < l.place → at l.room.items i ≡ at l.from i }
