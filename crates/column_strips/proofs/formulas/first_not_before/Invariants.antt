use Rattle.std.proofs.Common.{◌-◌, ◌≡◌, ◌≢◌, ◌<◌, ◌≤◌, Some, length, slice_get, ℕ}
use Rattle.std.specs.declared.cmp.Ordering.TheVariants.{Less}
use Rattle.cell_refs.specs.Cells.{cell_cmp}
use Rattle.column_strips.specs.declared.formulas.Formula.{Formula}
use Rattle.column_strips.proofs.formulas.first_not_before.Given as goal

abbrev pub invariant-loop-low : goal.invariant-loop-low
invariant-loop-low l = record {
  from : l.from ≤ l.low;
  low : l.low ≤ l.high;
  high : l.high ≤ length l.formulas;
  before : (k : ℕ) (f : Formula) → l.from ≤ k → k < l.low → slice_get l.formulas k ≡ Some f → cell_cmp f.cell l.cell ≡ Less;
  behind : (f : Formula) → slice_get l.formulas l.high ≡ Some f → cell_cmp f.cell l.cell ≢ Less;
}

abbrev pub decreases-loop-low : goal.decreases-loop-low
decreases-loop-low l = l.high - l.low
