use Rattle.std.proofs.Common.{◌≡◌, ◌≤◌, ◌+◌, ◌-◌, length, drop}
use Rattle.calculations.specs.Calculation.{narrow}
use Rattle.calculations.proofs.CalculationLaws.{behind_answers}
use Rattle.affine_forms.specs.Steps.{merged}
use Rattle.affine_forms.proofs.merging.sum_of_terms.Given as goal

-- the terms so far and then those of the rest are those of the whole
abbrev pub invariant-loop-i : goal.invariant-loop-i
invariant-loop-i l = record {
  first : l.i ≤ length l.left;
  second : l.j ≤ length l.right;
  few : length l.terms ≤ l.i + l.j;
  narrow : narrow (merged l.left l.right) ≡ behind_answers l.terms (narrow (merged (drop l.i l.left) (drop l.j l.right)));
}

abbrev pub decreases-loop-i : goal.decreases-loop-i
decreases-loop-i l = (length l.left - l.i) + (length l.right - l.j)
