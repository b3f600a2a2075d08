use Rattle.std.proofs.Common.{arith, pos, neg_ℤ, rules}
use Rattle.std.specs.Prelude.{FitsSigned}
use Rattle.std.specs.Int.{w128}
use Rattle.std.proofs.lemmas.Int.{ints, to_z-of_z}
use Rattle.frac128.proofs.NarrowTens.{scaled-answer, down-is}
use Rattle.frac128.proofs.TenPowers.{one_le_ten}
use Rattle.frac128.proofs.TenPowers.{small_power, narrow_power}
use Rattle.frac128.proofs.read.over_power.Goals as goal

pub pow-power-requires : goal.pow-power-requires
pow-power-requires c = small_power c.args.places c.requires.places

pub with_sign-requires-2 : goal.with_sign-requires-2
with_sign-requires-2 c = omega (arith, c.pow-power.ensures, narrow_power c.args.places c.requires.places)

pub quotient-requires : goal.quotient-requires
quotient-requires c = λ e. omega (arith, ints, e, c.with_sign-2.ensures, c.pow-power.ensures, one_le_ten c.args.places)

pub returns : goal.returns
returns c =
    let fits : FitsSigned w128 c.with_sign.result = search rules in
    let fits-2 : FitsSigned w128 c.with_sign-2.result = search rules in
    scaled-answer c.quotient.result c.args.negative c.args.number (neg_ℤ (pos c.args.places)) _
    (down-is c.args.negative c.args.number c.args.places c.pow-power.result c.with_sign.result c.with_sign-2.result c.with_sign.ensures c.with_sign-2.ensures c.pow-power.ensures)
    (simp to_z-of_z at c.quotient.ensures)
