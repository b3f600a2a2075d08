use Rattle.std.proofs.Common.{ap, length, suc, arith}
use Rattle.std.proofs.lemmas.List.{length-replicate}
use Rattle.fractions.specs.Rational.{zero_ℚ}
use Rattle.tableau.proofs.dict.Dict.of_parts.Goals as goal

pub invariant_of-result : goal.invariant_of-result
invariant_of-result c = record {
  shaped = c.requires.shaped;
  solved = omega (arith, ap length c.in_ok-solved.ensures, length-replicate (suc c.len.result) zero_ℚ, c.len.ensures);
  spare = omega (arith, ap length c.in_ok-spare.ensures, length-replicate (suc c.len-2.result) zero_ℚ, c.len-2.ensures);
  height = c.requires.high;
  width = c.requires.small;
}
