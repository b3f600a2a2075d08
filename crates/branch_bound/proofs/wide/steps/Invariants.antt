use Rattle.std.proofs.Common.{◌≡◌, take, map}
use Rattle.search_paths.specs.Steps.{step_of}
use Rattle.branch_bound.proofs.wide.steps.Given as goal

abbrev pub invariant-loop-part : goal.invariant-loop-part
invariant-loop-part l = l.made.items ≡ map step_of (take l.part-index l.path)
