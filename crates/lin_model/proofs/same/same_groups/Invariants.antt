use Rattle.std.proofs.Common.{◌≡◌, ◌↔◌, drop}
use Rattle.lin_model.specs.Lists.{lists_of}
use Rattle.lin_model.proofs.same.same_groups.Given as goal

abbrev pub invariant-loop-place : goal.invariant-loop-place
invariant-loop-place l = (lists_of l.one ≡ lists_of l.other) ↔ (lists_of (drop l.place l.one) ≡ lists_of (drop l.place l.other))
