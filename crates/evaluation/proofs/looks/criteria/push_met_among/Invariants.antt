use Rattle.std.proofs.Common.{◌≡◌, ◌++◌, drop}
use Rattle.evaluation.proofs.LookMet.{met_among}
use Rattle.evaluation.proofs.looks.criteria.push_met_among.Given as goal

-- the cells so far and then those of the rest are those of all
abbrev pub invariant-loop-place : goal.invariant-loop-place
invariant-loop-place l = l.initial.to ++ met_among l.criterion l.tested l.cells ≡ l.to ++ met_among l.criterion (drop l.place l.tested) (drop l.place l.cells)
