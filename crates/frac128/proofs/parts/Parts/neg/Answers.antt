use Rattle.std.proofs.Common.{◌≡◌, pos, neg_ℤ, ◌-ℤ◌, FitsSigned, to_z, of_z, arith}
use Rattle.std.proofs.lemmas.Int.{ints, fits_signed_from_abs}
use Rattle.std.specs.Int.{w128}
use Rattle.frac128.proofs.Lowest.{narrow-neg}
use Rattle.frac128.proofs.parts.Parts.neg.Goals as goal

pub invariant_of-result : goal.invariant_of-result
invariant_of-result c =
    let n = c.self.inside.num in
    let f : FitsSigned w128 n = fits_signed_from_abs w128 n c.self.invariant.num in
    let e : to_z w128 (of_z w128 (pos 0 -ℤ to_z w128 (of_z w128 n))) ≡ neg_ℤ n = omega (arith, ints) in
    rw e (narrow-neg _ _ c.self.invariant)
