use Rattle.std.proofs.Common.{arith}
use Rattle.search_ends.proofs.Lists.{same_list}
use Rattle.branch_bound.proofs.answer.numbers_in.Goals as goal

pub returns : goal.returns
returns c =
    let e = c.loop-place-test.false in
    let s = c.loop-place.invariant.size in
    same_list c.loop-place.room.items c.args.from.now s (λ i l. c.loop-place.invariant.same i (omega (arith, e, l, s)))
