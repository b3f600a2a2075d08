use Rattle.std.proofs.Common.{arith}
use Rattle.column_strips.proofs.Marked.{none_marked}
use Rattle.column_strips.proofs.marks.Marks.clear.Goals as goal

pub invariant_of-self : goal.invariant_of-self
invariant_of-self c =
    let m = c.self.invariant.0 in (
      none_marked c.clear.new.self c.clear-2.new.self c.clear.ensures.items c.clear-2.ensures.empty
          (omega (arith, m.room, c.clear.ensures.capacity)) (omega (arith, m.spare_places, m.as_many, c.clear-2.ensures.capacity)),
      c.self.invariant.1,
    )
