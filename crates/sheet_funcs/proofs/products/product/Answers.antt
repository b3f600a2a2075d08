use Rattle.sheet_funcs.specs.Arguments.{grid_of}
use Rattle.sheet_funcs.proofs.GridProducts.{product_answers, product_size, product_stops}
use Rattle.sheet_funcs.proofs.products.product.Goals as goal

pub returns-in_err-items : goal.returns-in_err-items
returns-in_err-items c = product_stops (grid_of c.args.left.now) (grid_of c.args.right.now) _ c.from_residual.result c.from_residual.ensures.1 c.in_err-items.ensures

pub area-requires : goal.area-requires
area-requires c = record {
  some_rows = c.size_of-rows.ensures.some_rows;
  some_columns = c.size_of-columns.ensures.some_columns;
  size = product_size (grid_of c.args.left.now) (grid_of c.args.right.now) c.in_ok-items.items.items _ _ c.in_ok-items.ensures c.size_of-rows.ensures.rows c.size_of-columns.ensures.columns;
}

pub returns : goal.returns
returns c =
    product_answers (grid_of c.args.left.now) (grid_of c.args.right.now) c.in_ok-items.items.items c.area.result c.in_ok-items.ensures
    (rw (← c.size_of-rows.ensures.rows, ← c.size_of-columns.ensures.columns) c.area.ensures)
