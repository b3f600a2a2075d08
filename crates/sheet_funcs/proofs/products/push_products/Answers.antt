use Rattle.std.proofs.Common.{arith, ap, ◌∙◌, Err}
use Rattle.std.specs.Prelude.{option_map}
use Rattle.calculations.specs.Calculation.{for_each}
use Rattle.calculations.proofs.CalculationLaws.{narrow-turned_into}
use Rattle.sheet_model.specs.declared.value.Value.TheVariants.{Number}
use Rattle.sheet_model.proofs.Spreading.{turned_answers}
use Rattle.sheet_funcs.specs.Arguments.{grid_of}
use Rattle.sheet_funcs.specs.Matrices.{places_in, value_at}
use Rattle.sheet_funcs.specs.Products.{product_at}
use Rattle.sheet_funcs.proofs.Placed.{places_end, places_go, places_stop}
use Rattle.sheet_funcs.proofs.products.push_products.Goals as goal

pub returns-in_err-product_at : goal.returns-in_err-product_at
returns-in_err-product_at c =
    let g = grid_of c.args.left.now in
    let h = grid_of c.args.right.now in
    places_stop (value_at g h) (λ column. (c.args.row, column)) (for_each (value_at g h) (places_in h.columns c.args.row)) c.args.items.now.items c.loop-column.items.items c.loop-column.column h.columns _
    c.from_residual.result _ (omega (arith, c.columns_of-column-end.ensures, c.loop-column-test.true)) c.loop-column.invariant c.from_residual.ensures.1
    (turned_answers Number (product_at g h (c.args.row, c.loop-column.column)) (Err _) c.in_err-product_at.ensures)

pub loop-column-preserved : goal.loop-column-preserved
loop-column-preserved c =
    let g = grid_of c.args.left.now in
    let h = grid_of c.args.right.now in
    places_go (value_at g h) (λ column. (c.args.row, column)) _ c.loop-column.items.items c.push.new.self.items _ c.loop-column.column h.columns
    (omega (arith, c.columns_of-column-end.ensures, c.loop-column-test.true)) c.in_ok-push.ensures.items c.loop-column.invariant
    (narrow-turned_into Number (product_at g h (c.args.row, c.loop-column.column)) ∙ ap (option_map Number) c.in_ok-product_at.ensures)

pub returns : goal.returns
returns c =
    let g = grid_of c.args.left.now in
    let h = grid_of c.args.right.now in
    places_end (value_at g h) (λ column. (c.args.row, column)) _ c.loop-column.items.items c.loop-column.column h.columns (omega (arith, c.columns_of-column-end.ensures, c.loop-column-test.false)) c.loop-column.invariant
