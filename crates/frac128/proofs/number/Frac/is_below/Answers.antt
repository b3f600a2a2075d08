use Rattle.std.proofs.lemmas.Bool.{false≢true}
use Rattle.frac128.proofs.ValueOrder.{not_below_same, not_below_above}
use Rattle.frac128.proofs.number.Frac.is_below.Goals as goal

pub returns-in-Equal : goal.returns-in-Equal
returns-in-Equal c = (λ e. absurd (false≢true e), λ h. absurd (not_below_same _ _ c.in-Equal.ensures h))

pub returns-in-Greater : goal.returns-in-Greater
returns-in-Greater c = (λ e. absurd (false≢true e), λ h. absurd (not_below_above _ _ c.in-Greater.ensures h))
