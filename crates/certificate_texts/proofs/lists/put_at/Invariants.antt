use Rattle.std.proofs.Common.{◌≡◌, ◌≤◌, ◌-◌, ◌+◌, ◌++◌, ℕ, suc, length, replicate}
use Rattle.fractions.specs.Rational.{zero_ℚ}
use Rattle.certificate_texts.proofs.lists.put_at.Given as goal

-- so many zeros are behind the first numbers
abbrev pub invariant-loop-numbers : goal.invariant-loop-numbers
invariant-loop-numbers l = (n : ℕ) × ((l.numbers.items ≡ l.initial.numbers.items ++ replicate n zero_ℚ) × (suc (length l.initial.numbers.items + n) ≤ l.row))

abbrev pub decreases-loop-numbers : goal.decreases-loop-numbers
decreases-loop-numbers l = l.row - length l.numbers.items
