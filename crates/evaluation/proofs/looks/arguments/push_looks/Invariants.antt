use Rattle.std.proofs.Common.{◌≡◌, ◌++◌, take}
use Rattle.recalculation.specs.Looks.{all_looks}
use Rattle.evaluation.proofs.looks.arguments.push_looks.Given as goal

-- what the arguments so far look at, behind what was there
abbrev pub invariant-loop-arg : goal.invariant-loop-arg
invariant-loop-arg l = l.to ≡ l.initial.to ++ all_looks (take l.arg-index l.args)
