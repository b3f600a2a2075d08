use Rattle.std.proofs.Common.{◌≡◌, length, drop}
use Rattle.calculations.specs.Calculation.{narrow}
use Rattle.form_values.specs.Trials.{Answers, Trial, each_tried}
use Rattle.form_values.specs.declared.abs.Abs.{Abs}
use Rattle.form_ops.proofs.Trying.{behind_values}
use Rattle.form_ops.proofs.lifting.each.Given as goal

-- the values so far and then those of the rest, if there are such, are those of all
abbrev pub invariant-loop-item : goal.invariant-loop-item
invariant-loop-item g l = record {
  callable : goal.F-IsAlwaysCallable g l.work;
  count : length l.answers.items ≡ l.item-index;
  narrow : (f : Abs → Trial Abs) → ((x : _) (r : _) → goal.F-post g l.work x r → Answers (f x.now) r)
      → narrow (each_tried f l.items) ≡ behind_values l.answers.items (narrow (each_tried f (drop l.item-index l.items)));
}
