use Rattle.std.proofs.Common.{arith}
use Rattle.dep_table.proofs.Spreading.{length_left}
use Rattle.dep_table.proofs.reached.spread.Goals as goal

pub loop-next-smaller : goal.loop-next-smaller
loop-next-smaller c =
    let most = length_left c.loop-next.flags c.loop-next.reached.items in
    let less = c.in_ok-follow.ensures.less in
    let test = c.loop-next-test.true in
    omega (arith, most, less, test, c.len.ensures, c.loop-next.reached.ok.0)
