use Rattle.std.proofs.Common.{arith, map}
use Rattle.sheet_funcs.specs.Arguments.{below, grid_of}
use Rattle.sheet_funcs.specs.Products.{dot, factors_at}
use Rattle.sheet_funcs.proofs.Dots.{dot_goes, dot_product_stops, dot_sum_stops}
use Rattle.sheet_funcs.proofs.products.dot.Goals as goal

pub returns-in_err-product_in-clause-answer : goal.returns-in_err-product_in-clause-answer
returns-in_err-product_in-clause-answer c =
    let factors = factors_at (map grid_of c.args.args.now) in
    dot_product_stops factors (dot (map factors (below c.args.count))) c.loop-place.total c.loop-place.place c.args.count _ c.from_residual.result (omega arith) c.loop-place.invariant c.from_residual.ensures.1
    c.in_err-product_in.ensures.answer

pub returns-in_err-total-clause-answer : goal.returns-in_err-total-clause-answer
returns-in_err-total-clause-answer c =
    let factors = factors_at (map grid_of c.args.args.now) in
    dot_sum_stops factors (dot (map factors (below c.args.count))) c.loop-place.total c.loop-place.place c.args.count c.in_ok-product_in.field-0 _ c.from_residual-in_err-total.result (omega arith) c.loop-place.invariant
    c.from_residual-in_err-total.ensures.1 c.in_ok-product_in.ensures.answer c.in_err-total.ensures

pub loop-place-preserved : goal.loop-place-preserved
loop-place-preserved c =
    dot_goes (factors_at (map grid_of c.args.args.now)) _ c.loop-place.total c.loop-place.place c.args.count c.in_ok-product_in.field-0 c.in_ok-total.total (omega arith) c.loop-place.invariant c.in_ok-product_in.ensures.answer
    c.in_ok-total.ensures
