-- What open values decide of what a call looks at: as known values do, where they are known. An open value is no error; another test
-- of IF, place of CHOOSE or INDEX, key, column or criterion that is open decides nothing.
use Rattle.std.specs.Prelude.{ℕ, ◌&&◌, ◌==◌, Bool, true, false, if◌then◌else◌, List, [], ◌∷◌, flat_map, slice_get, option_to_list, ℤ, Option, Some, None, option_map, Result, Ok, Err}
use Rattle.fractions.specs.Rational.{ℚ}
use Rattle.fractions.specs.Floor.{floor_ℚ}
use Rattle.calculations.specs.Calculation.{narrow}
use Rattle.cell_refs.specs.declared.cell.Cell.{Cell}
use Rattle.cell_refs.specs.declared.error_kind.ErrorKind.{ErrorKind}
use Rattle.sheet_model.specs.Conversions.{logical_in}
use Rattle.sheet_model.specs.declared.value.Value.TheVariants.{Error}
use Rattle.sheet_funcs.specs.declared.pick.Pick.{Pick}
use Rattle.sheet_funcs.specs.declared.pick.Pick.TheVariants.{Part as Picked, Fault}
use Rattle.recalculation.specs.Evaluation.{CellGrid}
use Rattle.recalculation.specs.Looks.{Deciding}
use Rattle.form_values.specs.Trials.{Trial, Refusal}
use Rattle.form_values.specs.declared.abs.Abs.{Abs}
use Rattle.form_values.specs.declared.abs.Abs.TheVariants.{Known}
use Rattle.form_values.specs.declared.abs.AbsArg.{AbsArg}
use Rattle.form_values.specs.declared.abs.AbsArg.TheVariants.{One}
use Rattle.form_table.specs.Wanted.{Wanted, none, value_of, number_of, known_number, single, grid_of}
use Rattle.form_table.specs.Picks.{pick_form}
use Rattle.form_table.specs.Lookups.{record_form, kinds_in, error_of}
use Rattle.form_table.specs.Criteria.{met_places}

-- what a row gives on narrow numbers, where it isn't refused
abbrev pub given_of : {A : Type 0} → Option (Result A Refusal) → Option A
given_of (Some (Ok a)) = Some a
given_of _ = None

abbrev pub given_by : {A : Type 0} → Trial A → Option A
given_by c = given_of (narrow c)

-- ---- IF, IFERROR and CHOOSE
abbrev pub truth_in : Abs → Option (Result Bool ErrorKind)
truth_in (Known v) = Some (logical_in v)
truth_in a = None

abbrev pub is_known_error : AbsArg → Bool
is_known_error (One (Known (Error k))) = true
is_known_error a = false

abbrev pub place_in : Wanted → Option ℚ → Option (Result ℤ ErrorKind)
place_in (none k) x = Some (Err k)
place_in w x = option_map (λ x. Ok (floor_ℚ x)) x

-- ---- VLOOKUP, HLOOKUP and SUMIF
abbrev pub record_picked : Result (ℕ × ℕ) ErrorKind → Pick
record_picked (Ok place) = Picked place.0 place.1 place.0 place.1
record_picked (Err k) = Fault k

abbrev pub record_by : ℕ → List Abs → List AbsArg → Option Pick
record_by fields keys (key ∷ field ∷ rest) = option_map record_picked (given_by (record_form fields keys (value_of key) (number_of field) (kinds_in rest)))
record_by fields keys _ = None

-- the cells in some places
abbrev pub cells_at : CellGrid → List ℕ → List Cell
cells_at g places = flat_map (λ place. option_to_list (slice_get g.cells place)) places

abbrev pub summed_by : CellGrid → AbsArg → Abs → Option ErrorKind → Option (List Cell)
summed_by g tested criterion (Some k) = Some []
summed_by g tested criterion None =
    if ((grid_of tested).rows == g.rows) && ((grid_of tested).columns == g.columns)
    then option_map (cells_at g) (given_by (met_places (grid_of tested).items criterion))
    else Some []

abbrev pub by_form : Deciding AbsArg Abs
by_form = record {
  truth = λ a. truth_in (value_of a);
  is_error = λ a. Some (is_known_error (single a));
  place = λ a. place_in (number_of a) (known_number (number_of a));
  index_pick = λ rows columns places. given_by (pick_form rows columns places);
  record_pick = record_by;
  summed = λ g tested criterion. summed_by g tested (value_of criterion) (error_of (value_of criterion));
}
