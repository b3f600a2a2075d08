use Rattle.std.proofs.Common.{◌≡◌, ap, ◌∙◌, arith, of_z, pos, to_z}
use Rattle.std.specs.Int.{w128}
use Rattle.std.proofs.lemmas.Int.{ints}
use Rattle.fractions.specs.Rational.{inv_ℚ}
use Rattle.fractions.specs.Whole.{whole_ℚ}
use Rattle.form_table.specs.Items.{forms_of}
use Rattle.form_areas.specs.Counted.{items_among}
use Rattle.form_areas.proofs.AmongItems.{mean_given, mean_stops}
use Rattle.form_areas.proofs.sums.mean.Goals as goal

pub returns-in-Ok : goal.returns-in-Ok
returns-in-Ok c =
    let same : to_z w128 (of_z w128 c.count_items-count.result) ≡ pos (items_among c.args.args.now) = omega (arith, ints, c.count_items-count.ensures.value, c.count_items-count.ensures.narrow) in
    rw c.as_entry.ensures
    (mean_given (forms_of c.args.args.now) c.in-Ok.total c.inverse.result c.scale.result (λ e. c.if-count-eq0.false (ap (of_z w128) (c.count_items-count.ensures.value ∙ ap pos e))) c.in-Ok.ensures
    (c.inverse.ensures ∙ ap inv_ℚ (c.whole.ensures ∙ ap whole_ℚ same)) c.scale.ensures.answer)

pub returns-in-Err : goal.returns-in-Err
returns-in-Err c = rw c.form_refusal.ensures (mean_stops (forms_of c.args.args.now) c.in-Err.stop (λ e. c.if-count-eq0.false (ap (of_z w128) (c.count_items-count.ensures.value ∙ ap pos e))) c.in-Err.ensures)
