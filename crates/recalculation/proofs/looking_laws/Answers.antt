use Rattle.recalculation.proofs.Wide.{wide_looked_at, looked_referred}
use Rattle.recalculation.proofs.Without.{blocked, none_wide, wide_without}
use Rattle.recalculation.proofs.looking_laws.Goals as goal

pub returns : goal.returns
returns c = record { wide = wide_looked_at; none = wide_without; blocked = blocked; known = none_wide; referred = λ book over a b h. (h.1, looked_referred book over a b h) }
