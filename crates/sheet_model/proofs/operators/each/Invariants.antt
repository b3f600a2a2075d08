use Rattle.std.proofs.Common.{◌≡◌, length, drop}
use Rattle.calculations.specs.Calculation.{Calculation, narrow, for_each}
use Rattle.calculations.proofs.CalculationLaws.{behind_answers}
use Rattle.sheet_model.specs.Answers.{Answers}
use Rattle.sheet_model.specs.declared.value.Value.{Value}
use Rattle.sheet_model.proofs.operators.each.Given as goal

-- the answers so far and then those of the rest, if these are narrow, are those of all
abbrev pub invariant-loop-item : goal.invariant-loop-item
invariant-loop-item g l = record {
  callable : goal.F-IsAlwaysCallable g l.work;
  count : length l.answers.items ≡ l.item-index;
  narrow : (f : Value → Calculation Value) → ((x : _) (r : _) → goal.F-post g l.work x r → Answers (f x.now) r)
      → narrow (for_each f l.items) ≡ behind_answers l.answers.items (narrow (for_each f (drop l.item-index l.items)));
}
