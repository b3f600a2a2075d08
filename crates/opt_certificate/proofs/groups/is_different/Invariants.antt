use Rattle.std.proofs.Common.{◌↔◌, drop}
use Rattle.fractions.specs.Vectors.{at}
use Rattle.lin_model.proofs.Apart.{IsApart}
use Rattle.opt_certificate.proofs.groups.is_different.Given as goal

abbrev pub invariant-loop-place : goal.invariant-loop-place
invariant-loop-place l = IsApart (at l.point) l.group ↔ IsApart (at l.point) (drop l.place l.group)
