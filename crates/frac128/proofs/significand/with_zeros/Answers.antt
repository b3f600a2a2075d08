use Rattle.frac128.proofs.TenPowers.{big_shift, small_power}
use Rattle.frac128.proofs.significand.with_zeros.Goals as goal

pub returns-then-zeros-gt38 : goal.returns-then-zeros-gt38
returns-then-zeros-gt38 c = big_shift c.args.n c.args.zeros c.if-n-eq0.false c.if-zeros-gt38.true

pub pow-power-requires : goal.pow-power-requires
pow-power-requires c = small_power c.args.zeros c.if-zeros-gt38.false
