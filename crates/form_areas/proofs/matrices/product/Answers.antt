use Rattle.form_table.specs.Wanted.{grid_of}
use Rattle.form_areas.proofs.MatrixProducts.{product_given, product_refused, product_size}
use Rattle.form_areas.proofs.matrices.product.Goals as goal

pub returns-in_err-items : goal.returns-in_err-items
returns-in_err-items c = product_refused (grid_of c.args.left.now) (grid_of c.args.right.now) _ c.from_residual.result c.from_residual.ensures.1 c.in_err-items.ensures

pub area-requires : goal.area-requires
area-requires c = record {
  some_rows = c.size_of-rows.ensures.some_rows;
  some_columns = c.size_of-columns.ensures.some_columns;
  size = product_size (grid_of c.args.left.now) (grid_of c.args.right.now) c.in_ok-items.items.items _ _ c.in_ok-items.ensures c.size_of-rows.ensures.rows c.size_of-columns.ensures.columns;
}

pub returns : goal.returns
returns c =
    product_given (grid_of c.args.left.now) (grid_of c.args.right.now) c.in_ok-items.items.items c.area.result c.in_ok-items.ensures
    (rw (← c.size_of-rows.ensures.rows, ← c.size_of-columns.ensures.columns) c.area.ensures)
