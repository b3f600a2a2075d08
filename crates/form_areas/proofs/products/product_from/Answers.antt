use Rattle.std.proofs.Common.{ap, ◌∙◌, arith, map}
use Rattle.std.specs.Prelude.{slice_index_or}
use Rattle.sheet_model.specs.declared.value.Value.TheVariants.{Empty}
use Rattle.sheet_model.proofs.Spreading.{rest_from}
use Rattle.form_values.specs.Trials.{through_tried}
use Rattle.form_values.specs.declared.abs.Abs.TheVariants.{Known}
use Rattle.form_table.specs.Operators.{times}
use Rattle.form_table.specs.Products.{factor, factors_at}
use Rattle.form_table.specs.Wanted.{grid_of}
use Rattle.form_areas.proofs.Dots.{factor_goes, factor_stops}
use Rattle.form_areas.proofs.ProductSums.{grid_items}
use Rattle.form_areas.proofs.products.product_from.Goals as goal

pub returns-in_err-product : goal.returns-in_err-product
returns-in_err-product c =
    let a = c.other-item.result in
    let f = factor (slice_index_or (grid_of a).items c.args.place (Known Empty)) in
    factor_stops (through_tried times c.args.first (factors_at (map grid_of c.args.others.now) c.args.place)) c.loop-other.product c.get.result.now f _ _ _ c.from_residual.result
    (c.get.ensures ∙ c.form.ensures ∙ c.factor_at-factor.ensures ∙ ap (λ xs. factor (slice_index_or xs c.args.place (Known Empty))) (c.elements.ensures ∙ grid_items a))
    (ap (λ xs. factors_at (map grid_of xs) c.args.place) (rest_from c.args.others.now c.loop-other.other-index a (omega arith) c.other-item.is))
    c.loop-other.invariant c.from_residual.ensures.1 c.in_err-product.ensures

pub loop-other-preserved : goal.loop-other-preserved
loop-other-preserved c =
    let a = c.other-item.result in
    let f = factor (slice_index_or (grid_of a).items c.args.place (Known Empty)) in
    factor_goes _ c.loop-other.product c.get.result.now f c.in_ok-product.product _ _
    (c.get.ensures ∙ c.form.ensures ∙ c.factor_at-factor.ensures ∙ ap (λ xs. factor (slice_index_or xs c.args.place (Known Empty))) (c.elements.ensures ∙ grid_items a))
    (ap (λ xs. factors_at (map grid_of xs) c.args.place) (rest_from c.args.others.now c.loop-other.other-index a (omega arith) c.other-item.is))
    c.loop-other.invariant c.in_ok-product.ensures
