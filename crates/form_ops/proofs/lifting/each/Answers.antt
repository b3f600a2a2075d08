use Rattle.std.proofs.Common.{arith, length-append}
use Rattle.form_values.specs.Trials.{each_tried}
use Rattle.sheet_model.proofs.Spreading.{rest_from}
use Rattle.form_ops.proofs.Trying.{each-one_more, each-stops, refused_items}
use Rattle.form_ops.proofs.lifting.each.Goals as goal

pub returns-in_err-work-clause-narrow : goal.returns-in_err-work-clause-narrow
returns-in_err-work-clause-narrow g c f h =
    refused_items (f c.item-item.result) (each_tried f c.args.items.now) _ _ _ c.from_residual.ensures.1 (h _ _ c.in_err-work.ensures)
    (λ o. each-stops f _ c.loop-item.answers.items _ c.item-item.result _ o (rest_from c.args.items.now c.loop-item.item-index c.item-item.result (omega arith) c.item-item.is) (c.loop-item.invariant.narrow f h))

pub loop-item-preserved : goal.loop-item-preserved
loop-item-preserved g c = record {
  callable = c.loop-item.invariant.callable;
  count = rw (c.in_ok-push.ensures.items, length-append) (omega (arith, c.loop-item.invariant.count));
  narrow = λ f h.
      rw c.in_ok-push.ensures.items
      (each-one_more f _ c.loop-item.answers.items _ c.item-item.result _ _ (rest_from c.args.items.now c.loop-item.item-index c.item-item.result (omega arith) c.item-item.is) (c.loop-item.invariant.narrow f h) (h _ _ c.in_ok-work.ensures));
}
