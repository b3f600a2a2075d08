use Rattle.std.proofs.Common.{arith}
use Rattle.form_values.specs.Trials.{each_tried}
use Rattle.form_table.specs.Wanted.{grid_of}
use Rattle.sheet_funcs.specs.Products.{places_of}
use Rattle.form_areas.specs.Matrices.{element_at, places_in}
use Rattle.form_areas.proofs.Placed.{rows_end, rows_go, rows_stop}
use Rattle.form_areas.proofs.matrices.product_items.Goals as goal

pub returns-in_err-push_products : goal.returns-in_err-push_products
returns-in_err-push_products c =
    let g = grid_of c.args.left.now in
    let h = grid_of c.args.right.now in
    rows_stop (element_at g h) (places_in h.columns) (each_tried (element_at g h) (places_of g.rows h.columns)) c.loop-row.items.items c.loop-row.row g.rows _ (λ items. items.items) c.from_residual.result
    (omega (arith, c.rows_of-row-end.ensures, c.loop-row-test.true)) c.loop-row.invariant c.from_residual.ensures.1 c.in_err-push_products.ensures

pub loop-row-preserved : goal.loop-row-preserved
loop-row-preserved c =
    let g = grid_of c.args.left.now in
    let h = grid_of c.args.right.now in
    rows_go (element_at g h) (places_in h.columns) _ c.loop-row.items.items c.push_products.new.items.items c.loop-row.row g.rows
    (omega (arith, c.rows_of-row-end.ensures, c.loop-row-test.true)) c.loop-row.invariant c.in_ok-push_products.ensures

pub returns : goal.returns
returns c =
    let g = grid_of c.args.left.now in
    let h = grid_of c.args.right.now in
    rows_end (element_at g h) (places_in h.columns) _ c.loop-row.items.items c.loop-row.row g.rows (omega (arith, c.rows_of-row-end.ensures, c.loop-row-test.false)) c.loop-row.invariant
