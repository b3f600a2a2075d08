use Rattle.std.proofs.Common.{arith}
use Rattle.std.specs.Prelude.{option_to_list}
use Rattle.std.specs.List.{filter_map}
use Rattle.calculations.specs.Calculation.{through}
use Rattle.affine_forms.specs.Steps.{added}
use Rattle.form_table.specs.Items.{form_in, item_at}
use Rattle.sheet_model.proofs.Spreading.{rest_from}
use Rattle.form_areas.proofs.AmongItems.{numbers_at, numbers_first}
use Rattle.form_areas.proofs.Summing.{part_goes, part_stops, stopped_in_place}
use Rattle.form_areas.proofs.items.add_elements.Goals as goal

pub returns-in_err-add_element : goal.returns-in_err-add_element
returns-in_err-add_element c =
    let a = c.item-item.result in
    stopped_in_place (through added c.loop-item.total (filter_map form_in (option_to_list (item_at a)))) (through added c.args.total.now (numbers_at c.args.items.now)) _ _ _ c.from_residual.ensures.1
    c.in_err-add_element.ensures
    (λ wide. part_stops added _ c.loop-item.total _ _ _ (numbers_first _ a _ (rest_from c.args.items.now c.loop-item.item-index a (omega arith) c.item-item.is)) c.loop-item.invariant wide)

pub loop-item-preserved : goal.loop-item-preserved
loop-item-preserved c =
    let a = c.item-item.result in
    part_goes added _ c.loop-item.total _ _ _ _ (numbers_first _ a _ (rest_from c.args.items.now c.loop-item.item-index a (omega arith) c.item-item.is)) c.loop-item.invariant c.in_ok-add_element.ensures
