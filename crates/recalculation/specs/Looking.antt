-- What a formula looks at where the values of some cells are known, and its narrow value. Each value decides.
use Rattle.std.specs.Prelude.{◌&&◌, ◌==◌, Bool, if◌then◌else◌, List, [], ◌∷◌, ◌++◌, Option, Some, None, is_some, Result, Ok, Err}
use Rattle.std.specs.List.{list_all}
use Rattle.calculations.specs.Calculation.{narrow}
use Rattle.cell_refs.specs.declared.cell.Cell.{Cell}
use Rattle.cell_refs.specs.declared.error_kind.ErrorKind.{ErrorKind}
use Rattle.formula_ast.specs.Tree.{Tree, Trees, none, more}
use Rattle.formula_ast.specs.Tree as tree
use Rattle.formula_ast.specs.Measures.{listed}
use Rattle.sheet_model.specs.Conversions.{logical_in}
use Rattle.sheet_model.specs.Operators.{single}
use Rattle.sheet_model.specs.Grids.{Rectangle}
use Rattle.sheet_model.specs.declared.value.Value.{Value}
use Rattle.sheet_model.specs.declared.value.Value.TheVariants.{Empty}
use Rattle.sheet_model.specs.declared.grid.Arg.{Arg}
use Rattle.sheet_funcs.specs.Arguments.{value_of, no_error, grid_of}
use Rattle.sheet_funcs.specs.Rounding.{place_of}
use Rattle.sheet_funcs.specs.Picks.{pick_of}
use Rattle.sheet_funcs.specs.Lookups.{record_pick}
use Rattle.sheet_funcs.specs.Criteria.{met}
use Rattle.recalculation.specs.Evaluation.{CellGrid, grid_of_areas, evaluated, is_one_error}
use Rattle.recalculation.specs.Looks.{Argument, Deciding, call_looks}

-- ---- what values decide
-- the cells of a grid in the places where the tested grid, of the same size, meets a criterion
abbrev pub met_cells : CellGrid → Rectangle → Result Value ErrorKind → List Cell
met_cells g tested (Ok criterion) =
    if (tested.rows == g.rows) && (tested.columns == g.columns) then met criterion tested.items g.cells else []
met_cells g tested (Err k) = []

abbrev pub by_value : Deciding Arg Value
by_value = record {
  truth = λ a. Some (logical_in (value_of a));
  is_error = λ a. Some (is_one_error (single a));
  place = λ a. Some (place_of a);
  index_pick = λ rows columns places. Some (pick_of rows columns places);
  record_pick = λ fields keys others. Some (record_pick fields keys others);
  summed = λ g tested criterion. Some (met_cells g (grid_of tested) (no_error (value_of criterion)));
}

-- ---- what is known
-- the values that are known, and Empty elsewhere
abbrev pub or_empty : Option Value → Value
or_empty (Some v) = v
or_empty None = Empty

abbrev pub known_or_empty : (Cell → Option Value) → Cell → Value
known_or_empty known a = or_empty (known a)

abbrev pub are_known : (Cell → Option Value) → List Cell → Bool
are_known known cells = list_all (λ a. is_some (known a)) cells

-- the narrow value of a part that looks at some cells; none where one of them has no value, or where a number isn't narrow
abbrev pub outcome_of : (Cell → Option Value) → Tree → List Cell → Option Arg
outcome_of known t cells = if are_known known cells then narrow (evaluated (known_or_empty known) t) else None

-- the cells of a reference; a plus before it changes nothing
abbrev pub reference_in : Tree → Option CellGrid
reference_in (tree.Reference s areas) = Some (grid_of_areas (listed areas))
reference_in (tree.Plus s x) = reference_in x
reference_in _ = None

abbrev mutual
  -- the cells at which a part of a formula looks, where the values of some cells are known
  pub looked_at : (Cell → Option Value) → Tree → List Cell
  looked_at known (tree.Reference s areas) = (grid_of_areas (listed areas)).cells
  looked_at known (tree.Call s f args) = call_looks by_value known f (arguments known args)
  looked_at known (tree.Plus s x) = looked_at known x
  looked_at known (tree.Minus s x) = looked_at known x
  looked_at known (tree.Percent s x) = looked_at known x
  looked_at known (tree.Infix s o x y) = looked_at known x ++ looked_at known y
  looked_at known _ = []

  pub arguments : (Cell → Option Value) → Trees → List (Argument Arg)
  arguments known none = []
  arguments known (more t ts) =
      record { looks = looked_at known t; outcome = outcome_of known t (looked_at known t); reference = reference_in t } ∷ arguments known ts
