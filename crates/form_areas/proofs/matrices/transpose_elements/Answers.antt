use Rattle.std.proofs.Common.{ap, ◌∙◌, length}
use Rattle.form_areas.proofs.Placed.{length-transposed}
use Rattle.form_table.specs.Wanted.{grid_of}
use Rattle.form_areas.proofs.matrices.transpose_elements.Goals as goal

pub area-requires : goal.area-requires
area-requires c = record {
  some_rows = c.size_of-rows.ensures.some_columns;
  some_columns = c.size_of-rows.ensures.some_rows;
  size = rw (c.size_of-rows.ensures.rows, c.size_of-rows.ensures.columns) (ap length c.in_ok-items.ensures ∙ length-transposed (grid_of c.args.arg.now));
}
