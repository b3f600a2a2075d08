use Rattle.std.proofs.Common.{arith, ap, length, []}
use Rattle.search_paths.proofs.Growing.{grown-length}
use Rattle.search_paths.proofs.paths.Paths.box_of.Goals as goal

pub lead-requires-clause-placed : goal.lead-requires-clause-placed
lead-requires-clause-placed c = rw c.deref.ensures.value c.self.invariant.placed

pub lead-requires-clause-at : goal.lead-requires-clause-at
lead-requires-clause-at c =
    let os = c.self.inside.origins.items in
    let e = grown-length [] os in
    let h = rw (← c.self.view_is) at c.requires in
    rw c.deref.ensures.value (c.begin.ensures.at os (omega (arith, e, h)) c.self.invariant.placed c.self.invariant.at)

pub lead-requires-clause-there : goal.lead-requires-clause-there
lead-requires-clause-there c =
    let e = grown-length [] c.self.inside.origins.items in
    let h = rw (← c.self.view_is) at c.requires in
    let v = ap length c.deref.ensures.value in
    omega (arith, e, h, v)
