use Rattle.std.proofs.Common.{arith, []}
use Rattle.search_paths.proofs.Growing.{grown-length}
use Rattle.search_paths.proofs.paths.Paths.reserve.Goals as goal

pub returns-clause-room : goal.returns-clause-room
returns-clause-room c =
    let e = grown-length [] c.reserve.new.self.items in let k = c.reserve.new.self.ok.0 in let h = c.in_ok-reserve.ensures.ok in let l = c.in_ok-reserve.ensures.len in omega (arith, e, k, h, l)

pub invariant_of-self : goal.invariant_of-self
invariant_of-self c = record { placed = rw c.reserve.ensures.items c.self.invariant.placed; at = rw c.reserve.ensures.items c.self.invariant.at }

pub invariant_of-self-2 : goal.invariant_of-self-2
invariant_of-self-2 c = record { placed = rw c.reserve.ensures.items c.self.invariant.placed; at = rw c.reserve.ensures.items c.self.invariant.at }
