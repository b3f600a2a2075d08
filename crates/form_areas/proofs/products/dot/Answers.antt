use Rattle.std.proofs.Common.{arith, map}
use Rattle.sheet_funcs.specs.Arguments.{below}
use Rattle.form_table.specs.Products.{dot, factors_at}
use Rattle.form_table.specs.Wanted.{grid_of}
use Rattle.form_areas.proofs.Dots.{dot_goes, dot_product_stops, dot_sum_stops}
use Rattle.form_areas.proofs.products.dot.Goals as goal

pub returns-in_err-product : goal.returns-in_err-product
returns-in_err-product c =
    let factors = factors_at (map grid_of c.args.args.now) in
    dot_product_stops factors (dot (map factors (below c.args.count))) c.loop-place.total c.loop-place.place c.args.count _ c.from_residual.result (omega arith) c.loop-place.invariant c.from_residual.ensures.1
    c.in_err-product.ensures

pub returns-in_err-add_form : goal.returns-in_err-add_form
returns-in_err-add_form c =
    let factors = factors_at (map grid_of c.args.args.now) in
    dot_sum_stops factors (dot (map factors (below c.args.count))) c.loop-place.total c.loop-place.place c.args.count c.in_ok-product.product _ c.from_residual-in_err-add_form.result (omega arith) c.loop-place.invariant
    c.from_residual-in_err-add_form.ensures.1 c.in_ok-product.ensures c.in_err-add_form.ensures

pub loop-place-preserved : goal.loop-place-preserved
loop-place-preserved c =
    dot_goes (factors_at (map grid_of c.args.args.now)) _ c.loop-place.total c.loop-place.place c.args.count c.in_ok-product.product _ (omega arith) c.loop-place.invariant c.in_ok-product.ensures
    c.in_ok-add_form.ensures
