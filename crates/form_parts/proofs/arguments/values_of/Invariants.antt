use Rattle.std.proofs.Common.{◌≡◌, drop, length, map}
use Rattle.calculations.proofs.CalculationLaws.{behind_answers}
use Rattle.form_extraction.specs.Parts.{argument}
use Rattle.form_parts.proofs.Giving.{AreBehind}
use Rattle.recalculation.specs.Looks.{outcomes}
use Rattle.form_parts.proofs.arguments.values_of.Given as goal

-- the values so far, and then those of the rest
abbrev pub invariant-loop-part : goal.invariant-loop-part
invariant-loop-part l = record {
  values : AreBehind l.parts l.values.items (drop l.part-index l.parts);
  given : outcomes (map argument l.parts) ≡ behind_answers l.values.items (outcomes (map argument (drop l.part-index l.parts)));
  count : length l.values.items ≡ l.part-index;
}
