use Rattle.std.proofs.Common.{pos, rules}
use Rattle.std.specs.Prelude.{FitsSigned}
use Rattle.std.specs.Int.{w128}
use Rattle.std.proofs.lemmas.Int.{to_z-of_z}
use Rattle.frac128.proofs.NarrowTens.{wide-above, scaled-answer, up-is}
use Rattle.frac128.proofs.read.times_power.Goals as goal

pub returns-in_err-size : goal.returns-in_err-size
returns-in_err-size c = rw c.from_residual.ensures (wide-above c.args.negative c.args.number c.args.zeros c.in_err-size.ensures)

pub returns : goal.returns
returns c =
    let fits : FitsSigned w128 c.with_sign.result = search rules in
    scaled-answer c.quotient.result c.args.negative c.args.number (pos c.args.zeros) _
    (up-is c.args.negative c.args.number c.args.zeros c.in_ok-size.size c.with_sign.result c.with_sign.ensures c.in_ok-size.ensures.0)
    (simp to_z-of_z at c.quotient.ensures)
