use Rattle.std.proofs.Common.{ap, subst}
use Rattle.std.specs.Option.{option_map}
use Rattle.searches.specs.Trails.{State}
use Rattle.branch_bound.specs.States.{state_of, found_of, way_of}
use Rattle.branch_bound.specs.Searches.{HasEnded}
use Rattle.branch_bound.specs.Fields.{held_of, is_given}
use Rattle.branch_bound.specs.Told.{IsTold}
use Rattle.branch_bound.proofs.Overs.{found_size, way_size}
use Rattle.branch_bound.proofs.Telling.{at_rest, answer_of}
use Rattle.branch_bound.proofs.search.Search.answer.Goals as goal

pub end_of_search-requires-clause-found : goal.end_of_search-requires-clause-found
end_of_search-requires-clause-found c =
    let s = c.self.inside in
    let e : HasEnded (held_of s) = rw (← c.self.view_is) at c.requires.ended in
    λ f q. found_size s.model s.units (state_of s.frontier s.work) (found_of f) c.whole-valid.ensures.valid c.self.invariant.trail e.at_rest (ap (option_map found_of) q)

pub end_of_search-requires-clause-way : goal.end_of_search-requires-clause-way
end_of_search-requires-clause-way c =
    let s = c.self.inside in
    let e : HasEnded (held_of s) = rw (← c.self.view_is) at c.requires.ended in
    λ w q. way_size s.model s.units (state_of s.frontier s.work) (way_of w) c.whole-valid.ensures.valid c.self.invariant.trail e.at_rest (ap (option_map way_of) q)

pub returns-clause-answer : goal.returns-clause-answer
returns-clause-answer c =
    let s = c.self.inside in
    let e : HasEnded (held_of s) = rw (← c.self.view_is) at c.requires.ended in
    answer_of (held_of (record s { room = c.take.new.self })) c.end_of_search.result (record { at_rest = e.at_rest; over = e.over }) c.whole-valid.ensures.valid c.self.invariant.trail
    (ap is_given c.take.ensures.after)
    (subst (λ (u : State). IsTold s.model u c.end_of_search.result) (at_rest s.frontier s.work e.at_rest) c.end_of_search.ensures)
