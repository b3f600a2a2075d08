use Rattle.std.proofs.Common.{ℕ, ◌<◌}
use Rattle.fractions.specs.Rational.{◌≤ℚ◌}
use Rattle.fractions.specs.Rows.{combined}
use Rattle.fractions.specs.Vectors.{at}
use Rattle.opt_certificate.specs.Rows.{floor_of}
use Rattle.opt_certificate.specs.Sums.{column_sum, StaysNarrow}
use Rattle.opt_certificate.proofs.leaf.columns_reach.Given as goal

abbrev pub invariant-loop-column : goal.invariant-loop-column
invariant-loop-column l = record {
  reach : (j : ℕ) → j < l.column → floor_of l.plain l.program j ≤ℚ at (combined l.multipliers l.program.rows) j;
  narrow : (j : ℕ) → j < l.column → StaysNarrow (column_sum j l.multipliers l.program.rows);
}
