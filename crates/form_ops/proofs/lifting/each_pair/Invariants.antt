use Rattle.std.proofs.Common.{◌≡◌, length, drop}
use Rattle.std.specs.Prelude.{zip}
use Rattle.calculations.specs.Calculation.{narrow}
use Rattle.form_values.specs.Trials.{each_tried}
use Rattle.form_values.specs.declared.abs.Abs.{Abs}
use Rattle.form_table.specs.Operators.{infix_abs}
use Rattle.form_ops.proofs.Trying.{behind_values}
use Rattle.form_ops.proofs.lifting.each_pair.Given as goal

-- the values so far and then those of the rest, if there are such, are those of all
abbrev pub invariant-loop-index : goal.invariant-loop-index
invariant-loop-index l = record {
  count : length l.answers.items ≡ l.index;
  narrow : narrow (each_tried (λ (p : Abs × Abs). infix_abs l.op p.0 p.1) (zip l.first l.second))
      ≡ behind_values l.answers.items (narrow (each_tried (λ (p : Abs × Abs). infix_abs l.op p.0 p.1) (zip (drop l.index l.first) (drop l.index l.second))));
}
