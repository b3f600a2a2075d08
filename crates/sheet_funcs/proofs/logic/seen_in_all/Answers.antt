use Rattle.std.proofs.Common.{arith, sym}
use Rattle.std.proofs.lemmas.Result.{err_from_is_err_and}
use Rattle.sheet_model.proofs.Spreading.{rest_from}
use Rattle.sheet_funcs.specs.Items.{logicals_in}
use Rattle.sheet_funcs.proofs.Collecting.{sees_error, sees_more}
use Rattle.sheet_funcs.proofs.logic.seen_in_all.Goals as goal

pub returns-in_err-seen_in : goal.returns-in_err-seen_in
returns-in_err-seen_in c =
    let p = err_from_is_err_and c.from_residual.result c.from_residual.ensures.1 in
    rw (p.1, p.2)
    (sym (sees_error logicals_in _ c.loop-arg.seen _ c.arg-item.result _ c.in_err-seen_in.field-0.0 (rest_from c.args.args.now c.loop-arg.arg-index c.arg-item.result (omega arith) c.arg-item.is) c.loop-arg.invariant c.in_err-seen_in.ensures))

pub loop-arg-preserved : goal.loop-arg-preserved
loop-arg-preserved c =
    rw c.join-seen.ensures
    (sees_more logicals_in _ c.loop-arg.seen _ c.arg-item.result _ c.in_ok-seen_in.field-0 (rest_from c.args.args.now c.loop-arg.arg-index c.arg-item.result (omega arith) c.arg-item.is) c.loop-arg.invariant c.in_ok-seen_in.ensures)
