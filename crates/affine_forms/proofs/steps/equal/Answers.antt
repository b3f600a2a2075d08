use Rattle.fractions.specs.Rational.{eq_ℚ}
use Rattle.fractions.proofs.Order.{eq_iff}
use Rattle.frac128.proofs.NarrowLaws.{same_if_equal}
use Rattle.std.proofs.Common.{◌∙◌, ◌≡◌}
use Rattle.affine_forms.proofs.SideBySide.{agreeing}
use Rattle.affine_forms.proofs.steps.equal.Goals as goal

pub returns : goal.returns
returns c = c.eq.ensures ∙ agreeing _ (eq_ℚ c.args.x c.args.y) (c.args.x ≡ c.args.y) (same_if_equal c.args.x c.args.y) (eq_iff c.args.x c.args.y)
