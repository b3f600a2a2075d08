use Rattle.std.proofs.Common.{sym, ◌∙◌, pos}
use Rattle.sheet_funcs.proofs.Numbers.{whole-ne-zero}
use Rattle.sheet_funcs.proofs.Remainders.{power-ne-zero}
use Rattle.sheet_funcs.proofs.rounding.rounded_half_up.Goals as goal

pub raise-requires-clause-other_than_zero : goal.raise-requires-clause-other_than_zero
raise-requires-clause-other_than_zero c below h = whole-ne-zero (pos 10) (λ e. cc) (sym c.from_whole.ensures ∙ h)

pub divide-requires : goal.divide-requires
divide-requires c h = power-ne-zero c.from_whole.result _ (λ e. whole-ne-zero (pos 10) (λ e. cc) (sym c.from_whole.ensures ∙ e)) (sym c.in_ok-scale.ensures.0 ∙ h)
