use Rattle.std.proofs.Common.{arith}
use Rattle.std.proofs.Math.Nat.{pos_of_dvd_of_pos}
use Rattle.std.specs.Int.{IsGcd}
use Rattle.std.proofs.lemmas.Nat.Gcd.{IsGcd-from_zero, IsGcd-from_mod}
use Rattle.frac128.proofs.integers.gcd_long.Goals as goal

pub loop-y-preserved : goal.loop-y-preserved
loop-y-preserved c g h = c.loop-y.invariant g (IsGcd-from_mod _ _ g h)

pub returns : goal.returns
returns c =
    let g : IsGcd c.args.a c.args.b c.loop-y.x = c.loop-y.invariant _ (IsGcd-from_zero _ _ (omega arith)) in
    record { gcd = g; positive = λ some. pos_of_dvd_of_pos g.1 some }
