use Rattle.std.proofs.Common.{arith, ap}
use Rattle.std.specs.Option.{option_to_list}
use Rattle.sheet_funcs.specs.Arguments.{all_or_error}
use Rattle.sheet_funcs.specs.Items.{number_at}
use Rattle.sheet_funcs.specs.Tallies.{tally_or_error}
use Rattle.sheet_model.proofs.Spreading.{rest_from}
use Rattle.sheet_funcs.proofs.Collecting.{filter_map-parts}
use Rattle.sheet_funcs.proofs.Tallying.{tallies_more, tallies_stop}
use Rattle.sheet_funcs.proofs.tally.Tally.of_items.Goals as goal

pub loop-item-init : goal.loop-item-init
loop-item-init c = ap (λ rs. tally_or_error c.args.self c.args.before (all_or_error rs)) (filter_map-parts number_at c.args.items.now)

pub returns-in_err-so_far : goal.returns-in_err-so_far
returns-in_err-so_far c =
    tallies_stop c.args.self (λ v. option_to_list (number_at v)) _ c.loop-item.so_far _ c.item-item.result _ c.in_err-so_far.field-0.0 c.from_residual.result c.from_residual.ensures.1
    (rest_from c.args.items.now c.loop-item.item-index c.item-item.result (omega arith) c.item-item.is) c.loop-item.invariant c.in_err-so_far.ensures

pub loop-item-preserved : goal.loop-item-preserved
loop-item-preserved c =
    tallies_more c.args.self (λ v. option_to_list (number_at v)) _ c.loop-item.so_far _ c.item-item.result _ c.in_ok-so_far.so_far
    (rest_from c.args.items.now c.loop-item.item-index c.item-item.result (omega arith) c.item-item.is) c.loop-item.invariant c.in_ok-so_far.ensures
