use Rattle.std.proofs.Common.{◌≡◌, length, drop}
use Rattle.std.specs.Prelude.{zip}
use Rattle.calculations.specs.Calculation.{narrow, for_each}
use Rattle.calculations.proofs.CalculationLaws.{behind_answers}
use Rattle.sheet_model.specs.Operators.{infix_value}
use Rattle.sheet_model.specs.declared.value.Value.{Value}
use Rattle.sheet_model.proofs.operators.each_pair.Given as goal

-- the answers so far and then those of the rest, if these are narrow, are those of all
abbrev pub invariant-loop-index : goal.invariant-loop-index
invariant-loop-index l = record {
  count : length l.answers.items ≡ l.index;
  narrow : narrow (for_each (λ (p : Value × Value). infix_value l.op p.0 p.1) (zip l.first l.second))
      ≡ behind_answers l.answers.items (narrow (for_each (λ (p : Value × Value). infix_value l.op p.0 p.1) (zip (drop l.index l.first) (drop l.index l.second))));
}
