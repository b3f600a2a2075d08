use Rattle.std.proofs.Common.{ap}
use Rattle.std.specs.Option.{option_map}
use Rattle.branch_bound.specs.States.{work_of}
use Rattle.branch_bound.specs.Fields.{held_of}
use Rattle.branch_bound.proofs.Telling.{stop_of}
use Rattle.branch_bound.proofs.search.Search.stop_of.Goals as goal

pub returns-in-Ok : goal.returns-in-Ok
returns-in-Ok c =
    let s = c.self.inside in
    rw (← c.self.view_is)
    (stop_of (held_of s) (work_of s.frontier.paths.paths c.in-Some.work) c.in-Ok.told (ap (option_map (work_of s.frontier.paths.paths)) c.in-Some.is) c.in-Ok.ensures)
