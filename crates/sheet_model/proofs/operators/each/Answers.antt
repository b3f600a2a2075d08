use Rattle.std.proofs.Common.{arith, length-append}
use Rattle.calculations.specs.Calculation.{for_each}
use Rattle.sheet_model.proofs.Spreading.{rest_from, each-one_more, each-stops, stopped_items}
use Rattle.sheet_model.proofs.operators.each.Goals as goal

pub returns-in_err-work-clause-narrow : goal.returns-in_err-work-clause-narrow
returns-in_err-work-clause-narrow g c f h =
    stopped_items (f c.item-item.result) (for_each f c.args.items.now) _ _ _ c.from_residual.ensures.1 (h _ _ c.in_err-work.ensures)
    (each-stops f _ c.loop-item.answers.items _ c.item-item.result _ (rest_from c.args.items.now c.loop-item.item-index c.item-item.result (omega arith) c.item-item.is) (c.loop-item.invariant.narrow f h))

pub loop-item-preserved : goal.loop-item-preserved
loop-item-preserved g c = record {
  callable = c.loop-item.invariant.callable;
  count = rw (c.in_ok-push.ensures.items, length-append) (omega (arith, c.loop-item.invariant.count));
  narrow = λ f h.
      rw c.in_ok-push.ensures.items
      (each-one_more f _ c.loop-item.answers.items _ c.item-item.result _ _ (rest_from c.args.items.now c.loop-item.item-index c.item-item.result (omega arith) c.item-item.is) (c.loop-item.invariant.narrow f h) (h _ _ c.in_ok-work.ensures));
}
