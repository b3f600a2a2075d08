use Rattle.std.proofs.Common.{◌*ℤ◌, to_z, of_z, w64}
use Rattle.tableau.proofs.Words.{fits_product, fits_short_sum, fits_before, fits_behind, fits_both, product_word, short_sum_word, before_word, both_word, little_below, same_bits, step_over_one, step_over_all, not_over_zero}
use Rattle.tableau.proofs.products.small_step.Goals as goal

pub overflow_mul-factor : goal.overflow_mul-factor
overflow_mul-factor c = fits_product c.in_ok-factor.factor c.in_ok-number.number c.in_ok-factor.ensures.2 c.in_ok-number.ensures.2

pub overflow_add-entry : goal.overflow_add-entry
overflow_add-entry c =
    fits_short_sum c.in_ok-entry.entry c.in_ok-factor.factor c.in_ok-number.number c.in_ok-entry.ensures.2 c.in_ok-factor.ensures.2 c.in_ok-number.ensures.2

pub returns-then-under_entry-under : goal.returns-then-under_entry-under
returns-then-under_entry-under c =
    let e = c.in_ok-entry.entry in
    let u = c.in_ok-entry.under_entry in
    let x = c.in_ok-factor.factor in
    let v = c.in_ok-factor.under_factor in
    let y = c.in_ok-number.number in
    let w = c.in_ok-number.under_number in
    let a = c.in_ok-entry.ensures in
    let b = c.in_ok-factor.ensures in
    let n = c.in_ok-number.ensures in
    let below = product_word v w (little_below c.args.b x v b) (little_below c.args.c y w n) in
    step_over_one c.args.a c.args.b c.args.c e u x v y w _ _ c.lowest.result a b n (same_bits u (to_z w64 (of_z w64 v) *ℤ to_z w64 (of_z w64 w)) (v *ℤ w) (little_below c.args.a e u a) c.if-under_entry-under.true below) (short_sum_word e x y a.2 b.2 n.2) below c.lowest.ensures

pub overflow_mul-entry : goal.overflow_mul-entry
overflow_mul-entry c =
    let v = c.in_ok-factor.under_factor in
    let w = c.in_ok-number.under_number in
    fits_before c.in_ok-entry.entry v w c.in_ok-entry.ensures.2 (little_below c.args.b c.in_ok-factor.factor v c.in_ok-factor.ensures) (little_below c.args.c c.in_ok-number.number w c.in_ok-number.ensures)

pub overflow_mul-factor-2 : goal.overflow_mul-factor-2
overflow_mul-factor-2 c = fits_product c.in_ok-factor.factor c.in_ok-number.number c.in_ok-factor.ensures.2 c.in_ok-number.ensures.2

pub overflow_mul-factor-3 : goal.overflow_mul-factor-3
overflow_mul-factor-3 c =
    let u = c.in_ok-entry.under_entry in
    fits_behind c.in_ok-factor.factor c.in_ok-number.number u c.in_ok-factor.ensures.2 c.in_ok-number.ensures.2 (little_below c.args.a c.in_ok-entry.entry u c.in_ok-entry.ensures)

pub overflow_add-entry-2 : goal.overflow_add-entry-2
overflow_add-entry-2 c =
    let e = c.in_ok-entry.entry in
    let u = c.in_ok-entry.under_entry in
    let x = c.in_ok-factor.factor in
    let v = c.in_ok-factor.under_factor in
    let y = c.in_ok-number.number in
    let w = c.in_ok-number.under_number in
    let a = c.in_ok-entry.ensures in
    let b = c.in_ok-factor.ensures in
    let n = c.in_ok-number.ensures in
    fits_both e v w x y u a.2 (little_below c.args.b x v b) (little_below c.args.c y w n) b.2 n.2 (little_below c.args.a e u a)

pub overflow_mul-under_entry : goal.overflow_mul-under_entry
overflow_mul-under_entry c =
    let u = c.in_ok-entry.under_entry in
    let v = c.in_ok-factor.under_factor in
    let w = c.in_ok-number.under_number in
    fits_before u v w (little_below c.args.a c.in_ok-entry.entry u c.in_ok-entry.ensures) (little_below c.args.b c.in_ok-factor.factor v c.in_ok-factor.ensures)
    (little_below c.args.c c.in_ok-number.number w c.in_ok-number.ensures)

pub lowest-requires-2 : goal.lowest-requires-2
lowest-requires-2 c =
    let e = c.in_ok-entry.entry in
    let u = c.in_ok-entry.under_entry in
    let x = c.in_ok-factor.factor in
    let v = c.in_ok-factor.under_factor in
    let y = c.in_ok-number.number in
    let w = c.in_ok-number.under_number in
    let a = c.in_ok-entry.ensures in
    let b = c.in_ok-factor.ensures in
    let n = c.in_ok-number.ensures in
    not_over_zero c.args.a c.args.b c.args.c e u x v y w _ a b n (before_word u v w (little_below c.args.a e u a) (little_below c.args.b x v b) (little_below c.args.c y w n))

pub returns : goal.returns
returns c =
    let e = c.in_ok-entry.entry in
    let u = c.in_ok-entry.under_entry in
    let x = c.in_ok-factor.factor in
    let v = c.in_ok-factor.under_factor in
    let y = c.in_ok-number.number in
    let w = c.in_ok-number.under_number in
    let a = c.in_ok-entry.ensures in
    let b = c.in_ok-factor.ensures in
    let n = c.in_ok-number.ensures in
    step_over_all c.args.a c.args.b c.args.c e u x v y w _ _ c.lowest-2.result a b n
    (both_word e v w x y u a.2 (little_below c.args.b x v b) (little_below c.args.c y w n) b.2 n.2 (little_below c.args.a e u a))
    (before_word u v w (little_below c.args.a e u a) (little_below c.args.b x v b) (little_below c.args.c y w n)) c.lowest-2.ensures
