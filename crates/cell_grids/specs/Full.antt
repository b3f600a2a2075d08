-- References whose cells stand in full rows and columns.
use Rattle.std.specs.Prelude.{◌≡◌, ◌<◌, ◌*◌, length}
use Rattle.recalculation.specs.Evaluation.{CellGrid}

-- at least one row and one column, and a cell in each place
pub record IsFullGrid (g : CellGrid) : Type 0 where
  pub some_rows : 0 < g.rows
  pub some_columns : 0 < g.columns
  pub size : length g.cells ≡ g.rows * g.columns
