use Rattle.std.proofs.Common.{◌≡◌, refl, sym, ap, ◌∙◌}
use Rattle.fractions.specs.Rational.{computed, inv_ℚ, zero_ℚ}
use Rattle.form_ops.proofs.number_tests.inverse.Goals as goal

inverse_zero : zero_ℚ ≡ inv_ℚ zero_ℚ
unfolding computed
inverse_zero = refl

pub returns-then-is_zero : goal.returns-then-is_zero
returns-then-is_zero c =
    let zero : c.args.number ≡ zero_ℚ = c.is_zero.ensures.0 c.if-is_zero.true in
    zero ∙ inverse_zero ∙ ap inv_ℚ (sym zero)
