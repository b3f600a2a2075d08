use Rattle.std.proofs.Common.{ap, ◌∙◌, length}
use Rattle.sheet_funcs.specs.Arguments.{grid_of}
use Rattle.sheet_funcs.proofs.Ranges.{length-transposed}
use Rattle.sheet_funcs.proofs.products.transpose.Goals as goal

pub area-requires : goal.area-requires
area-requires c = record {
  some_rows = c.size_of-rows.ensures.some_columns;
  some_columns = c.size_of-rows.ensures.some_rows;
  size = rw (c.size_of-rows.ensures.rows, c.size_of-rows.ensures.columns) (ap length c.in_ok-items.ensures ∙ length-transposed (grid_of c.arg-item.result));
}
