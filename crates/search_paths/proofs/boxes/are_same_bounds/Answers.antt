use Rattle.std.proofs.Common.{arith}
use Rattle.lin_model.proofs.Equal.{front, same_more}
use Rattle.search_paths.proofs.boxes.are_same_bounds.Goals as goal

pub loop-place-preserved : goal.loop-place-preserved
loop-place-preserved c =
    same_more c.args.one.now c.args.other.now c.loop-place.place c.index-one-place.result c.index-other-place.result
    (front c.args.one.now c.loop-place.place c.index-one-place.result (omega arith) c.index-one-place.is)
    (front c.args.other.now c.loop-place.place c.index-other-place.result (omega arith) c.index-other-place.is)
    (c.is_same_bound.ensures.0 c.if-not-is_same_bound.false) c.loop-place.invariant
