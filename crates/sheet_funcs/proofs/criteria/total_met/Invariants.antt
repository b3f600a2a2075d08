use Rattle.std.proofs.Common.{◌≡◌, drop, Some}
use Rattle.std.specs.Prelude.{zip}
use Rattle.fractions.specs.Rational.{zero_ℚ}
use Rattle.sheet_funcs.specs.Tallies.{tally_or_error}
use Rattle.sheet_funcs.specs.declared.tally.Tally.TheVariants.{Total}
use Rattle.sheet_funcs.proofs.Meeting.{numbers_where}
use Rattle.sheet_funcs.proofs.criteria.total_met.Given as goal

-- the numbers of the rest added to the sum so far
abbrev pub invariant-loop-place : goal.invariant-loop-place
invariant-loop-place l =
    tally_or_error Total (Some zero_ℚ) (numbers_where l.criterion (zip l.tested l.others)) ≡ tally_or_error Total l.total (numbers_where l.criterion (zip (drop l.place l.tested) (drop l.place l.others)))
