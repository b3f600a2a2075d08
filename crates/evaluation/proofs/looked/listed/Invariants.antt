use Rattle.std.proofs.Common.{◌≡◌, take}
use Rattle.evaluation.specs.Looked.{all_looked}
use Rattle.evaluation.proofs.looked.listed.Given as goal

-- the cells so far
abbrev pub invariant-loop-looked : goal.invariant-loop-looked
invariant-loop-looked l = l.cells.items ≡ all_looked (take l.looked-index l.list)
