use Rattle.opt_certificate.proofs.clash.is_clash.Goals as goal

pub returns : goal.returns
returns c = (
  λ t. let p = c.share_number.ensures.0 t in record { shared = p.0; differ = c.if-one-other.false; fixed = p.1 },
  λ h. c.share_number.ensures.1 (h.shared, h.fixed),
)
