use Rattle.std.proofs.Common.{◌≡◌, drop, length}
use Rattle.calculations.proofs.CalculationLaws.{behind_answers}
use Rattle.recalculation.specs.Looks.{elements}
use Rattle.evaluation.proofs.values.values_of.Given as goal

-- the values so far, and then those of the rest
abbrev pub invariant-loop-cell : goal.invariant-loop-cell
invariant-loop-cell g l = record {
  values : elements (g.C.Cells.known l.cells) l.of ≡ behind_answers l.values.items (elements (g.C.Cells.known l.cells) (drop l.cell-index l.of));
  count : length l.values.items ≡ l.cell-index;
}
