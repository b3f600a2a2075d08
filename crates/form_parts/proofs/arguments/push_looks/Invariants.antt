use Rattle.std.proofs.Common.{◌≡◌, ◌++◌, map, take}
use Rattle.form_extraction.specs.Parts.{argument}
use Rattle.recalculation.specs.Looks.{all_looks}
use Rattle.form_parts.proofs.arguments.push_looks.Given as goal

-- what the arguments so far look at, behind what was there
abbrev pub invariant-loop-arg : goal.invariant-loop-arg
invariant-loop-arg l = l.to.items ≡ l.initial.to.items ++ all_looks (map argument (take l.arg-index l.args))
