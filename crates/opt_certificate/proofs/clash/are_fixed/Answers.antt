use Rattle.std.proofs.Common.{sym, ap, ◌∙◌, List, Option}
use Rattle.fractions.specs.Rational.{ℚ}
use Rattle.linear_models.specs.Box.{bound_at}
use Rattle.lin_model.proofs.FitRows.{told_not}
use Rattle.opt_certificate.proofs.Shared.{fixed_both, not_fixed}
use Rattle.opt_certificate.proofs.clash.are_fixed.Goals as goal

pub returns-in-None : goal.returns-in-None
returns-in-None c =
    told_not (not_fixed c.args.within.now c.args.one c.args.other (sym (c.bound_of.ensures ∙ ap (λ (bs : List (Option ℚ)). bound_at bs c.args.one) c.least.ensures) ∙ c.in-None.is))

pub returns-in-Some : goal.returns-in-Some
returns-in-Some c =
    let b = fixed_both c.args.within.now c.args.one c.args.other c.in-Some.value (sym (c.bound_of.ensures ∙ ap (λ (bs : List (Option ℚ)). bound_at bs c.args.one) c.least.ensures) ∙ c.in-Some.is) in
    (λ t. b.0 (c.both_fixed.ensures.0 t), λ f. c.both_fixed.ensures.1 (b.1 f))
