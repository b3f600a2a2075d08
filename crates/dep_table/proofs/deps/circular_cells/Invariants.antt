use Rattle.std.proofs.Common.{◌≡◌, ◌<◌, ℕ, Some, slice_get, true}
use Rattle.std.specs.FinSet as set
use Rattle.cell_refs.specs.declared.cell.Cell.{Cell}
use Rattle.column_strips.specs.declared.formulas.Formula.{Formula}
use Rattle.dep_table.specs.declared.tour.Mark.TheVariants.{Circular}
use Rattle.dep_table.specs.Tour.{mark_at}
use Rattle.dep_table.proofs.deps.circular_cells.Given as goal

abbrev pub invariant-loop-place : goal.invariant-loop-place
invariant-loop-place l = record {
  sound : (a : Cell) → set.contains l.found a ≡ true
      → (i : ℕ) × (f : Formula) × (slice_get l.formulas i ≡ Some f) × (f.cell ≡ a) × (mark_at l.marks i ≡ Circular);
  complete : (i : ℕ) (f : Formula) → i < l.place → slice_get l.formulas i ≡ Some f → mark_at l.marks i ≡ Circular → set.contains l.found f.cell ≡ true;
}
