use Rattle.std.proofs.Common.{◌<◌, ◌+◌, sym, ap, ap₂, ◌∙◌, ◌++◌, [], ◌∷◌, length, arith, below_more}
use Rattle.std.proofs.lemmas.List.FromFn.{map-range_with_len_more}
use Rattle.model_prices.specs.Rows.{signs_of}
use Rattle.sensitivity.specs.Prices.{price_at}
use Rattle.sensitivity.proofs.OwnRows.{first_zero, first_next, first_fits}
use Rattle.sensitivity.proofs.price_list.all_prices.Goals as goal

pub loop-place-init : goal.loop-place-init
loop-place-init c = record { made = c.new-prices.ensures.items; narrow = λ k h. absurd (omega arith); first_is = sym (first_zero c.args.of.now.rows) }

pub overflow_add-slacks-in-loop-place : goal.overflow_add-slacks-in-loop-place
overflow_add-slacks-in-loop-place c =
    let h : c.loop-place.place < length c.args.of.now.rows = omega (arith, ap length c.rows.ensures) in
    omega (arith, c.objective.ensures.width, ap length c.objective.ensures.value, c.loop-place.invariant.first_is, first_fits c.args.of.now c.args.program.now c.loop-place.place c.requires.program c.rows-height.ensures.height h)

pub price_of_row-requires-clause-small : goal.price_of_row-requires-clause-small
price_of_row-requires-clause-small c =
    let h : c.loop-place.place < length c.args.of.now.rows = omega (arith, ap length c.rows.ensures) in
    omega (arith, c.objective.ensures.width, ap length c.objective.ensures.value, c.loop-place.invariant.first_is, first_fits c.args.of.now c.args.program.now c.loop-place.place c.requires.program c.rows-height.ensures.height h)

pub overflow_add-first : goal.overflow_add-first
overflow_add-first c =
    let h : c.loop-place.place < length c.args.of.now.rows = omega (arith, ap length c.rows.ensures) in
    let e = ap (λ r. length (signs_of r)) c.relation_of_row-relation.ensures in
    omega (arith, e, c.standard_rows-first.ensures, c.loop-place.invariant.first_is, first_fits c.args.of.now c.args.program.now c.loop-place.place c.requires.program c.rows-height.ensures.height h)

pub loop-place-preserved : goal.loop-place-preserved
loop-place-preserved c =
    let h : c.loop-place.place < length c.args.of.now.rows = omega (arith, ap length c.rows.ensures) in
    let f = price_at c.args.of.now c.args.dict.now in
    record {
      made = c.in_ok-push.ensures.items ∙ ap₂ (λ l y. l ++ y ∷ []) c.loop-place.invariant.made c.in-Ok.ensures.0 ∙ sym (map-range_with_len_more f 0 c.loop-place.place c.loop-place.place (omega arith));
      narrow = below_more _ _ c.loop-place.invariant.narrow c.in-Ok.ensures.1;
      first_is =
          ap₂ ◌+◌ c.loop-place.invariant.first_is (c.standard_rows-first.ensures ∙ ap (λ r. length (signs_of r)) c.relation_of_row-relation.ensures)
          ∙ sym (first_next c.args.of.now.rows c.loop-place.place h);
    }
