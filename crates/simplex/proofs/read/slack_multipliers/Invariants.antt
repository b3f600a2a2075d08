use Rattle.std.proofs.Common.{◌≡◌, ◌+◌, map}
use Rattle.std.specs.List.{range_with_len}
use Rattle.fractions.specs.Rational.{neg_ℚ}
use Rattle.dictionaries.specs.Reading.{entry_of}
use Rattle.simplex.proofs.read.slack_multipliers.Given as goal

abbrev pub invariant-loop-i : goal.invariant-loop-i
invariant-loop-i l = l.made.items ≡ map (λ v. neg_ℚ (entry_of l.dict.nonbasic l.row v)) (range_with_len (l.columns + 1) l.i)
