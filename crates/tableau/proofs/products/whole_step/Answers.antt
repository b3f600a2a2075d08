use Rattle.std.proofs.Common.{refl, pos}
use Rattle.tableau.proofs.Words.{fits_product, fits_short_sum, short_sum_word, step_over_one}
use Rattle.tableau.proofs.products.whole_step.Goals as goal

pub overflow_mul-factor : goal.overflow_mul-factor
overflow_mul-factor c = fits_product c.in_ok-factor.factor c.in_ok-number.number c.in_ok-factor.ensures.2 c.in_ok-number.ensures.2

pub overflow_add-entry : goal.overflow_add-entry
overflow_add-entry c =
    fits_short_sum c.in_ok-entry.entry c.in_ok-factor.factor c.in_ok-number.number c.in_ok-entry.ensures.2 c.in_ok-factor.ensures.2 c.in_ok-number.ensures.2

pub returns : goal.returns
returns c =
    let e = c.in_ok-entry.entry in
    let x = c.in_ok-factor.factor in
    let y = c.in_ok-number.number in
    let a = c.in_ok-entry.ensures in
    let b = c.in_ok-factor.ensures in
    let n = c.in_ok-number.ensures in
    step_over_one c.args.a c.args.b.now c.args.c e (pos 1) x (pos 1) y (pos 1) _ _ c.lowest.result a b n refl (short_sum_word e x y a.2 b.2 n.2) refl c.lowest.ensures
