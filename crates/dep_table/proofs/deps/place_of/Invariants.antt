use Rattle.std.proofs.Common.{◌≡◌, ◌≢◌, ◌<◌, Some, slice_get, ℕ}
use Rattle.column_strips.specs.declared.formulas.Formula.{Formula}
use Rattle.dep_table.proofs.deps.place_of.Given as goal

abbrev pub invariant-loop-place : goal.invariant-loop-place
invariant-loop-place l = (i : ℕ) (f : Formula) → i < l.place → slice_get l.formulas i ≡ Some f → f.cell ≢ l.cell
