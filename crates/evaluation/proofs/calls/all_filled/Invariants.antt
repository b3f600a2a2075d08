use Rattle.std.proofs.Common.{◌≡◌, drop, length}
use Rattle.calculations.proofs.CalculationLaws.{behind_answers}
use Rattle.evaluation.specs.Composed.{all_filled}
use Rattle.evaluation.proofs.calls.all_filled.Given as goal

-- the values so far, and then those of the rest
abbrev pub invariant-loop-part : goal.invariant-loop-part
invariant-loop-part g l = record {
  values : all_filled (g.C.Cells.known l.cells) l.parts ≡ behind_answers l.values.items (all_filled (g.C.Cells.known l.cells) (drop l.part-index l.parts));
  count : length l.values.items ≡ l.part-index;
}
