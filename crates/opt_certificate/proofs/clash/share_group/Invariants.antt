use Rattle.std.proofs.Common.{◌↔◌, drop}
use Rattle.lin_model.specs.Lists.{lists_of}
use Rattle.opt_certificate.specs.Clashes.{ShareGroup}
use Rattle.opt_certificate.proofs.clash.share_group.Given as goal

abbrev pub invariant-loop-group : goal.invariant-loop-group
invariant-loop-group l = ShareGroup (lists_of l.groups) l.one l.other ↔ ShareGroup (lists_of (drop l.group-index l.groups)) l.one l.other
