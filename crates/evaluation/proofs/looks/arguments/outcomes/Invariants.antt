use Rattle.std.proofs.Common.{◌≡◌, drop, length}
use Rattle.calculations.proofs.CalculationLaws.{behind_answers}
use Rattle.recalculation.specs.Looks.{outcomes}
use Rattle.evaluation.proofs.looks.arguments.outcomes.Given as goal

-- the values so far, and then those of the rest
abbrev pub invariant-loop-part : goal.invariant-loop-part
invariant-loop-part l = record {
  values : outcomes l.parts ≡ behind_answers l.values.items (outcomes (drop l.part-index l.parts));
  count : length l.values.items ≡ l.part-index;
}
