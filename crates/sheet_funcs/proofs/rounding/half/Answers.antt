use Rattle.std.proofs.Common.{sym, ap, ◌∙◌, pos}
use Rattle.fractions.specs.Rational.{one_ℚ, inv_ℚ}
use Rattle.fractions.specs.Whole.{whole_ℚ}
use Rattle.fractions.proofs.Laws.{mul_comm, mul-one}
use Rattle.sheet_funcs.proofs.Numbers.{whole-ne-zero}
use Rattle.sheet_funcs.proofs.rounding.half.Goals as goal

pub inverse-requires : goal.inverse-requires
inverse-requires c h = whole-ne-zero (pos 2) (λ e. cc) (sym c.from_whole.ensures ∙ h)

pub returns : goal.returns
returns c =
    let two = inv_ℚ (whole_ℚ (pos 2)) in
    c.inverse.ensures ∙ ap inv_ℚ c.from_whole.ensures ∙ sym (mul_comm one_ℚ two ∙ mul-one two)
