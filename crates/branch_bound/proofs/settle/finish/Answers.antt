use Rattle.branch_bound.proofs.settle.finish.Goals as goal

pub returns-in-Split-clause-heard : goal.returns-in-Split-clause-heard
returns-in-Split-clause-heard g c = rw c.in-Split.is c.split.ensures.heard

pub returns-in-Clash-clause-ended : goal.returns-in-Clash-clause-ended
returns-in-Clash-clause-ended g c = rw c.in-Clash.is (c.clash.ensures.ended c.in-Clash.field-2)
