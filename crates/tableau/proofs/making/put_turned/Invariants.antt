use Rattle.std.proofs.Common.{◌≡◌, ◌<◌, ◌≤◌, ℕ, suc, length}
use Rattle.fractions.specs.Rational.{zero_ℚ, neg_ℚ}
use Rattle.fractions.specs.Vectors.{at}
use Rattle.tableau.proofs.making.put_turned.Given as goal

abbrev pub invariant-loop-j : goal.invariant-loop-j
invariant-loop-j l = record {
  size : length l.row ≡ length l.fn.row;
  rest : at l.row 0 ≡ at l.fn.row 0;
  first : at l.row 1 ≡ at l.fn.row 1;
  done : (q : ℕ) → q < l.j → at l.row (suc (suc q)) ≡ neg_ℚ (at l.numbers q);
  left : (q : ℕ) → l.j ≤ q → at l.row (suc (suc q)) ≡ zero_ℚ;
}
