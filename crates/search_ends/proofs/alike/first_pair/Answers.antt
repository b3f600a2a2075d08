use Rattle.std.proofs.Common.{arith}
use Rattle.search_ends.proofs.Pairs.{no_pair}
use Rattle.search_ends.proofs.alike.first_pair.Goals as goal

pub returns : goal.returns
returns c = no_pair c.args.point.now c.args.group.now _ c.requires.below (λ i j l. c.loop-one.invariant i j (omega (arith, l, c.loop-one-test.false)))
