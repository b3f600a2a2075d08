use Rattle.std.proofs.Common.{arith, sym, ap, ◌∙◌, Some, None}
use Rattle.sheet_model.proofs.Spreading.{rest_from}
use Rattle.form_table.specs.Products.{error_among}
use Rattle.form_areas.proofs.ProductSums.{argument_first, grid_items}
use Rattle.form_areas.proofs.products.error_in_all.Goals as goal

pub returns-in-Some : goal.returns-in-Some
returns-in-Some c =
    sym
    (argument_first _ _ c.arg-item.result _ (Some c.in-Some.kind) (rest_from c.args.args.now c.loop-arg.arg-index c.arg-item.result (omega arith) c.arg-item.is) c.loop-arg.invariant
    (c.in-Some.ensures ∙ ap error_among (c.elements.ensures ∙ grid_items c.arg-item.result)))

pub loop-arg-preserved : goal.loop-arg-preserved
loop-arg-preserved c =
    argument_first _ _ c.arg-item.result _ None (rest_from c.args.args.now c.loop-arg.arg-index c.arg-item.result (omega arith) c.arg-item.is) c.loop-arg.invariant
    (sym c.in_default.is ∙ c.error_among.ensures ∙ ap error_among (c.elements.ensures ∙ grid_items c.arg-item.result))
