use Rattle.std.proofs.Common.{◌<◌, sym, ◌∙◌}
use Rattle.branch_bound.specs.Searches.{HasEnded}
use Rattle.branch_bound.specs.Fields.{held_of}
use Rattle.branch_bound.proofs.Holding.{pivot_grew, pivot_held, held_still, waiting_rises, open_grew, open_held, asked_of}
use Rattle.branch_bound.proofs.search.Search.step.Given as given
use Rattle.branch_bound.proofs.search.Search.step.Goals as goal

pub invariant_of-self : goal.invariant_of-self
invariant_of-self g c =
    let s = c.self.inside in
    let n : s.units < 1000000 = rw (← c.self.view_is) at c.requires.units in
    pivot_held s c.in-Some.work c.pivot.new.work c.settle.new.frontier c.settle.result _ c.self.invariant (sym c.take.ensures.value ∙ c.in-Some.is) c.in-Ok.ensures.made c.settle.ensures.becomes
    c.settle.ensures.ready c.settle.ensures.orderly n

pub invariant_of-self-in-Err : goal.invariant_of-self-in-Err
invariant_of-self-in-Err g c = held_still c.self.inside c.in-Some.work c.pivot.new.work c.self.invariant (sym c.take.ensures.value ∙ c.in-Some.is) c.in-Err.ensures.made.0

pub open-requires-clause-rising : goal.open-requires-clause-rising
open-requires-clause-rising g c = waiting_rises c.self.inside c.self.invariant

pub invariant_of-self-in-Ok-open : goal.invariant_of-self-in-Ok-open
invariant_of-self-in-Ok-open g c =
    let s = c.self.inside in
    let n : s.units < 1000000 = rw (← c.self.view_is) at c.requires.units in
    let k : ¬ (HasEnded (held_of s)) = rw (← c.self.view_is) at c.requires.open in
    open_held s c.open.new.frontier c.in-Ok-open.work c.settle-in-Ok-open.new.frontier c.settle-in-Ok-open.result _ _ _ (λ ms. (given.Picker-dyn g (c.settle-in-Ok-open.new.pick.vtable, c.settle-in-Ok-open.new.pick.value)).heard c.settle-in-Ok-open.new.pick.value ms) c.self.invariant (sym c.take.ensures.value ∙ c.in-None.is) k
    c.in-Ok-open.ensures.opened c.in-Ok-open.ensures.paths c.settle-in-Ok-open.ensures.becomes c.settle-in-Ok-open.ensures.ready c.settle-in-Ok-open.ensures.orderly n

pub returns-in-Ok-clause-ok : goal.returns-in-Ok-clause-ok
returns-in-Ok-clause-ok g c =
    let s = c.self.inside in
    rw (← c.self.view_is) (pivot_grew s c.in-Some.work c.pivot.new.work _ _ _ (sym c.take.ensures.value ∙ c.in-Some.is) c.in-Ok.ensures.made c.settle.ensures.becomes)

pub returns-in-Ok-open-clause-ok : goal.returns-in-Ok-open-clause-ok
returns-in-Ok-open-clause-ok g c =
    let s = c.self.inside in
    let k : ¬ (HasEnded (held_of s)) = rw (← c.self.view_is) at c.requires.open in
    rw (← c.self.view_is)
    (open_grew s c.open.new.frontier c.in-Ok-open.work _ _ _ _ (λ ms. (given.Picker-dyn g (c.settle-in-Ok-open.new.pick.vtable, c.settle-in-Ok-open.new.pick.value)).heard c.settle-in-Ok-open.new.pick.value ms) c.self.invariant (sym c.take.ensures.value ∙ c.in-None.is) k c.in-Ok-open.ensures.opened c.in-Ok-open.ensures.paths
    c.settle-in-Ok-open.ensures.becomes)

pub returns-in-Err-open-clause-heard : goal.returns-in-Err-open-clause-heard
returns-in-Err-open-clause-heard g c =
    let s = c.self.inside in
    rw (← c.self.view_is) (asked_of s _ _ c.self.invariant c.in-Err-open.ensures.asked)
