use Rattle.std.proofs.Common.{◌≡◌, ◌≤◌, drop}
use Rattle.std.specs.Prelude.{◌&&◌}
use Rattle.std.specs.Option.{option_map}
use Rattle.calculations.specs.Calculation.{narrow}
use Rattle.affine_forms.specs.Forms.{same_terms}
use Rattle.affine_forms.specs.Steps.{scaled_terms}
use Rattle.affine_forms.proofs.comparing.are_scaled.Given as goal

-- whether the terms so far are the same, and what is left of both lists
abbrev pub invariant-loop-j : goal.invariant-loop-j
invariant-loop-j l = record {
  behind : l.i ≤ l.j-index;
  narrow : option_map (same_terms l.terms) (narrow (scaled_terms l.k l.others)) ≡ option_map (λ ts. l.same && same_terms (drop l.i l.terms) ts) (narrow (scaled_terms l.k (drop l.j-index l.others)));
}
