use Rattle.std.proofs.Common.{arith}
use Rattle.std.specs.List.{filter_map}
use Rattle.calculations.specs.Calculation.{through}
use Rattle.affine_forms.specs.Steps.{added, total}
use Rattle.form_table.specs.Items.{form_in, forms_of, items_in}
use Rattle.sheet_model.proofs.Spreading.{rest_from}
use Rattle.form_areas.proofs.AmongItems.{forms_first}
use Rattle.form_areas.proofs.Summing.{part_goes, part_stops, stopped}
use Rattle.form_areas.proofs.items.total.Goals as goal

pub returns-in_err-add_items : goal.returns-in_err-add_items
returns-in_err-add_items c =
    let a = c.arg-item.result in
    stopped (through added c.loop-arg.total (filter_map form_in (items_in a))) (total (forms_of c.args.args.now)) _ _ c.from_residual.ensures.1 c.in_err-add_items.ensures
    (λ wide. part_stops added _ c.loop-arg.total _ _ _ (forms_first _ a _ (rest_from c.args.args.now c.loop-arg.arg-index a (omega arith) c.arg-item.is)) c.loop-arg.invariant wide)

pub loop-arg-preserved : goal.loop-arg-preserved
loop-arg-preserved c =
    let a = c.arg-item.result in
    part_goes added _ c.loop-arg.total _ _ _ _ (forms_first _ a _ (rest_from c.args.args.now c.loop-arg.arg-index a (omega arith) c.arg-item.is)) c.loop-arg.invariant c.in_ok-add_items.ensures
