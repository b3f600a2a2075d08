use Rattle.std.proofs.Common.{◌≡◌, ◌∙◌, ap, sym}
use Rattle.std.specs.Prelude.{not}
use Rattle.fractions.specs.Rational.{eq_ℚ, zero_ℚ}
use Rattle.fractions.proofs.Order.{eq_iff}
use Rattle.affine_forms.specs.Relations.{holds}
use Rattle.affine_forms.proofs.SideBySide.{agreeing}
use Rattle.affine_forms.proofs.rel.Rel.holds.Goals as goal

pub returns-in-Eq-clause-test : goal.returns-in-Eq-clause-test
returns-in-Eq-clause-test c =
    agreeing c.is_zero.result (eq_ℚ c.args.number zero_ℚ) (c.args.number ≡ zero_ℚ) c.is_zero.ensures (eq_iff c.args.number zero_ℚ) ∙ ap (λ r. holds r c.args.number) (sym c.in-Eq.is)

pub returns-in-Ne-clause-test : goal.returns-in-Ne-clause-test
returns-in-Ne-clause-test c =
    ap not (agreeing c.is_zero-in-Ne.result (eq_ℚ c.args.number zero_ℚ) (c.args.number ≡ zero_ℚ) c.is_zero-in-Ne.ensures (eq_iff c.args.number zero_ℚ)) ∙ ap (λ r. holds r c.args.number) (sym c.in-Ne.is)
