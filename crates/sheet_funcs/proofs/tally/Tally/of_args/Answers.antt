use Rattle.std.proofs.Common.{arith}
use Rattle.sheet_funcs.specs.Items.{items_in}
use Rattle.sheet_model.proofs.Spreading.{rest_from}
use Rattle.sheet_funcs.proofs.Tallying.{tallies_more, tallies_stop}
use Rattle.sheet_funcs.proofs.tally.Tally.of_args.Goals as goal

pub returns-in_err-so_far : goal.returns-in_err-so_far
returns-in_err-so_far c =
    tallies_stop c.args.self items_in _ c.loop-arg.so_far _ c.arg-item.result _ c.in_err-so_far.field-0.0 c.from_residual.result c.from_residual.ensures.1
    (rest_from c.args.args.now c.loop-arg.arg-index c.arg-item.result (omega arith) c.arg-item.is) c.loop-arg.invariant c.in_err-so_far.ensures

pub loop-arg-preserved : goal.loop-arg-preserved
loop-arg-preserved c =
    tallies_more c.args.self items_in _ c.loop-arg.so_far _ c.arg-item.result _ c.in_ok-so_far.so_far
    (rest_from c.args.args.now c.loop-arg.arg-index c.arg-item.result (omega arith) c.arg-item.is) c.loop-arg.invariant c.in_ok-so_far.ensures
