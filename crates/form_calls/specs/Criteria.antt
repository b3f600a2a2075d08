-- The cells that SUMIF sums.
use Rattle.std.specs.Prelude.{ℕ, Bool, true, false, ◌&&◌, ◌==◌, if◌then◌else◌, List, [], Option, Some, None}
use Rattle.cell_refs.specs.declared.cell.Cell.{Cell}
use Rattle.cell_refs.specs.declared.error_kind.ErrorKind.{ErrorKind}
use Rattle.recalculation.specs.Evaluation.{CellGrid}
use Rattle.recalculation.specs.Looks.{then_cells}
use Rattle.form_values.specs.declared.abs.Abs.{Abs}
use Rattle.form_values.specs.declared.abs.AbsArg.{AbsArg}
use Rattle.form_table.specs.Criteria.{met_places}
use Rattle.form_table.specs.Lookups.{error_of}
use Rattle.form_table.specs.Wanted.{grid_of, value_of}
use Rattle.form_extraction.specs.Deciding.{cells_at, given_by}
use Rattle.form_extraction.specs.Parts.{Part, value_in}
use Rattle.form_calls.specs.declared.source.Source.{Source}
use Rattle.form_calls.specs.Sources.{cells_in}

-- those in some places, where they are looked at
abbrev pub cells_seen : Bool → Source → List ℕ → List Cell
cells_seen true s places = cells_in s places
cells_seen false s places = []

-- the places that meet a criterion in a grid of this size, unless that is an error
abbrev pub met_unless : Option ErrorKind → ℕ → ℕ → AbsArg → Abs → Option (List ℕ)
met_unless (Some k) rows columns tested criterion = None
met_unless None rows columns tested criterion =
    if ((grid_of tested).rows == rows) && ((grid_of tested).columns == columns) then given_by (met_places (grid_of tested).items criterion) else None

-- the cells of a reference that are looked at where they are summed
abbrev pub sum_cells : Bool → Option CellGrid → Part → Part → List Cell
sum_cells true (Some g) tested criterion =
    then_cells (value_in tested.outcome) (λ a. then_cells (value_in criterion.outcome) (λ c.
    then_cells (met_unless (error_of (value_of c)) g.rows g.columns a (value_of c)) (cells_at g)))
sum_cells _ _ tested criterion = []
