use Rattle.std.proofs.Common.{ap, ◌∙◌, FitsSigned, rules}
use Rattle.std.specs.Prelude.{unsigned_abs}
use Rattle.std.specs.Int.{w128}
use Rattle.std.proofs.lemmas.Int.{to_z-of_z}
use Rattle.frac128.proofs.Readings.{back}
use Rattle.frac128.proofs.Powers.{narrow_reciprocal}
use Rattle.frac128.proofs.parts.Parts.reciprocal.Goals as goal

pub invariant_of-result : goal.invariant_of-result
invariant_of-result c =
    let f : FitsSigned w128 c.with_sign.result = search rules in
    let size = c.unsigned_abs.ensures.value ∙ ap unsigned_abs (back c.self.inside.num c.self.invariant.num) in
    rw (to_z-of_z w128 c.with_sign.result f, c.with_sign.ensures, size) (narrow_reciprocal _ _ _ (rw (← c.self.view_is) at c.requires) c.self.invariant)
