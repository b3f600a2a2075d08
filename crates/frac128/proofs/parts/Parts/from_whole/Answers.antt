use Rattle.std.proofs.Common.{arith, FitsSigned}
use Rattle.std.specs.Int.{w128, w64}
use Rattle.std.proofs.lemmas.Int.{ints, to_z-of_z}
use Rattle.frac128.proofs.Readings.{narrow_over_one}
use Rattle.frac128.proofs.parts.Parts.from_whole.Goals as goal

pub invariant_of-result : goal.invariant_of-result
invariant_of-result c =
    let small : FitsSigned w128 c.args.n = omega (arith, ints, c.ranges.n) in
    rw (to_z-of_z w64 c.args.n c.ranges.n, to_z-of_z w128 c.args.n small) (narrow_over_one c.args.n (omega (arith, ints, c.ranges.n)))
