use Rattle.std.proofs.Common.{ℕ, Vec, Global, take}
use Rattle.std.specs.Prelude.{All}
use Rattle.optimality.specs.Groups.{AreDifferent}
use Rattle.opt_certificate.proofs.groups.are_different.Given as goal

abbrev pub invariant-loop-group : goal.invariant-loop-group
invariant-loop-group l = All (λ (v : Vec ℕ Global). AreDifferent l.point v.items) (take l.group-index l.groups)
