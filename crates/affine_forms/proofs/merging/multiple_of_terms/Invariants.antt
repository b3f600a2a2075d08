use Rattle.std.proofs.Common.{◌≡◌, ◌≤◌, length, drop}
use Rattle.calculations.specs.Calculation.{narrow}
use Rattle.calculations.proofs.CalculationLaws.{behind_answers}
use Rattle.affine_forms.specs.Steps.{scaled_terms}
use Rattle.affine_forms.proofs.merging.multiple_of_terms.Given as goal

abbrev pub invariant-loop-j : goal.invariant-loop-j
invariant-loop-j l = record {
  few : length l.products ≤ l.j-index;
  narrow : narrow (scaled_terms l.k l.terms) ≡ behind_answers l.products (narrow (scaled_terms l.k (drop l.j-index l.terms)));
}
