use Rattle.std.proofs.Common.{◌↔◌, drop}
use Rattle.linear_models.specs.Statement.{IsOnce}
use Rattle.lin_model.proofs.fitting.are_once.Given as goal

abbrev pub invariant-loop-place : goal.invariant-loop-place
invariant-loop-place l = IsOnce l.list ↔ IsOnce (drop l.place l.list)
