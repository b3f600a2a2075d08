use Rattle.std.proofs.Common.{arith, length-append}
use Rattle.std.specs.Prelude.{zip}
use Rattle.form_values.specs.Trials.{each_tried}
use Rattle.form_values.specs.declared.abs.Abs.{Abs}
use Rattle.form_table.specs.Operators.{infix_abs}
use Rattle.sheet_model.proofs.Spreading.{pairs_from}
use Rattle.form_ops.proofs.Trying.{each-one_more, each-stops, refused_items}
use Rattle.form_ops.proofs.lifting.each_pair.Goals as goal

pub returns-in_err-infix_value-clause-narrow : goal.returns-in_err-infix_value-clause-narrow
returns-in_err-infix_value-clause-narrow c =
    let f = λ (p : Abs × Abs). infix_abs c.args.op p.0 p.1 in
    let x = c.index-first-index.result in
    let y = c.index-second-index.result in
    refused_items (infix_abs c.args.op x y) (each_tried f (zip c.args.first.now c.args.second.now)) _ _ _ c.from_residual.ensures.1 c.in_err-infix_value.ensures
    (λ o. each-stops f _ c.loop-index.answers.items _ (x, y) _ o (pairs_from c.args.first.now c.args.second.now c.loop-index.index x y (omega arith) (omega arith) c.index-first-index.is c.index-second-index.is) c.loop-index.invariant.narrow)

pub loop-index-preserved : goal.loop-index-preserved
loop-index-preserved c =
    let f = λ (p : Abs × Abs). infix_abs c.args.op p.0 p.1 in
    let x = c.index-first-index.result in
    let y = c.index-second-index.result in
    record {
      count = rw (c.in_ok-push.ensures.items, length-append) (omega (arith, c.loop-index.invariant.count));
      narrow =
          rw c.in_ok-push.ensures.items
          (each-one_more f _ c.loop-index.answers.items _ (x, y) _ _ (pairs_from c.args.first.now c.args.second.now c.loop-index.index x y (omega arith) (omega arith) c.index-first-index.is c.index-second-index.is) c.loop-index.invariant.narrow c.in_ok-infix_value.ensures);
    }
