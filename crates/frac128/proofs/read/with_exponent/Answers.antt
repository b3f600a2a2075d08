use Rattle.std.proofs.Common.{inl, inr, arith, pos, negsuc}
use Rattle.std.specs.Prelude.{◌<ℤ◌}
use Rattle.std.proofs.lemmas.Int.{ints}
use Rattle.frac128.proofs.NarrowTens.{scaled-answer, zero-is, wide-exponent}
use Rattle.frac128.proofs.read.with_exponent.Goals as goal

pub returns-then-number-eq0 : goal.returns-then-number-eq0
returns-then-number-eq0 c =
    scaled-answer c.quotient.result c.args.negative c.args.number c.args.exponent _ (zero-is c.args.negative c.args.number c.args.exponent c.if-number-eq0.true) c.quotient.ensures

pub returns-then-exponent-gt38 : goal.returns-then-exponent-gt38
returns-then-exponent-gt38 c =
    let above : pos 38 <ℤ c.args.exponent = grind (arith, ints) in
    wide-exponent c.args.negative c.args.number c.args.exponent c.if-number-eq0.false c.requires (inl above)

pub returns-then-exponent-ltminus76 : goal.returns-then-exponent-ltminus76
returns-then-exponent-ltminus76 c =
    let below : c.args.exponent <ℤ negsuc 75 = grind (arith, ints) in
    wide-exponent c.args.negative c.args.number c.args.exponent c.if-number-eq0.false c.requires (inr below)
