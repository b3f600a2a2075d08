use Rattle.std.proofs.Common.{Some, None}
use Rattle.form_ops.proofs.Answering.{difference_stops, difference_compared}
use Rattle.form_ops.proofs.choosing.differ_by_multiple.Goals as goal

pub returns-in-Err : goal.returns-in-Err
returns-in-Err c =
    rw c.form_refusal.ensures (difference_stops c.args.form.now c.args.first.now c.args.second.now c.in-Err.stop c.in-Err.ensures.answer)

pub returns-in-Ok-is_multiple : goal.returns-in-Ok-is_multiple
returns-in-Ok-is_multiple c =
    difference_compared c.args.form.now c.args.first.now c.args.second.now c.in-Ok.difference (Some c.in-Ok-is_multiple.holds) c.in-Ok.ensures.answer c.in-Ok-is_multiple.ensures

pub returns : goal.returns
returns c = difference_compared c.args.form.now c.args.first.now c.args.second.now c.in-Ok.difference None c.in-Ok.ensures.answer c.in-Err-is_multiple.ensures
