use Rattle.std.proofs.Common.{◌≡◌, ◌∙◌, ℕ, true, ap, length, subst, sym}
use Rattle.linear_models.specs.Model.{is_whole_at}
use Rattle.sheet_linear_model.specs.Answers.{prepared_of}
use Rattle.sheet_linear_model.proofs.Printed.{one_mark_each}
use Rattle.sheet_prices.proofs.Numbers.{is_continuous_so}
use Rattle.sheet_prices.proofs.pricing.price_rows.Goals as goal

pub first_whole-requires : goal.first_whole-requires
first_whole-requires c = ap length c.cells.ensures ∙ one_mark_each c.requires.0 c.requires.1 (prepared_of c.args.of.now) c.requires.2 ∙ sym (ap length c.whole.ensures.whole)

pub price_continuous-requires-clause-continuous : goal.price_continuous-requires-clause-continuous
price_continuous-requires-clause-continuous c =
    is_continuous_so c.requires.0 c.requires.1 (prepared_of c.args.of.now) c.requires.2 (c.has_aim.ensures.0 c.if-not-has_aim.false) c.whole.ensures.valid
    (subst (λ marks. (k : ℕ) → is_whole_at marks k ≡ true → ⊥) c.whole.ensures.whole c.in-None.ensures)
