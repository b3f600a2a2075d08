use Rattle.opt_certificate.proofs.clash.share_number.Goals as goal

pub returns-then-share_group : goal.returns-then-share_group
returns-then-share_group c = (λ t. (c.share_group.ensures.0 c.if-share_group.true, c.are_fixed.ensures.0 t), λ h. c.are_fixed.ensures.1 h.1)
