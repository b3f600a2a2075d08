use Rattle.std.proofs.Common.{arith, sym}
use Rattle.cell_refs.proofs.NamesLemmas.{named_below}
use Rattle.cell_refs.proofs.Places.{missing}
use Rattle.cell_refs.proofs.names.SheetNames.find.Goals as goal

pub returns-in_default-clause-none : goal.returns-in_default-clause-none
returns-in_default-clause-none c = let none = rw (c.deref.ensures.value, c.self.view_is) at c.in_default.ensures.none in none

pub overflow_cast-result : goal.overflow_cast-result
overflow_cast-result c =
    let found = rw c.deref.ensures.value at c.in-Some.ensures.found in
    let below = named_below c.self.inside.names.items c.args.name.now c.in-Some.place found in
    omega (arith, below, c.self.invariant.0)

pub returns-in_default-clause-place : goal.returns-in_default-clause-place
returns-in_default-clause-place c = let none = rw (c.deref.ensures.value, c.self.view_is) at c.in_default.ensures.none in sym (missing c.args.self.now c.args.name.now none)
