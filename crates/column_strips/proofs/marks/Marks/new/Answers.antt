use Rattle.std.proofs.Common.{arith}
use Rattle.column_strips.proofs.Marked.{none_marked}
use Rattle.column_strips.proofs.marks.Marks.new.Goals as goal

pub invariant_of-result : goal.invariant_of-result
invariant_of-result c = (
  none_marked c.in_ok-cells.cells c.in_ok-seen.seen c.in_ok-cells.ensures.items c.in_ok-seen.ensures.empty
      (omega (arith, c.in_ok-cells.ensures.capacity)) (omega (arith, c.in_ok-seen.ensures.spare)),
  record { for_rows = omega (arith, c.in_ok-rows.ensures.capacity); for_flags = omega (arith, c.in_ok-done.ensures.capacity) },
)
