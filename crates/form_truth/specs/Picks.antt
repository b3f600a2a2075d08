-- The part of a grid that INDEX picks, the place that MATCH finds, and the record and field of VLOOKUP and HLOOKUP, by open places and
-- keys: what is given is that under every assignment, none is refused as not affine, and an argument that leaves it undecided varies.
use Rattle.std.specs.Prelude.{◌≡◌, ℕ, ◌+◌, ◌*◌, ℤ, true, List, [], ◌∷◌, map, slice_get, Some, Result, Ok, Err}
use Rattle.std.specs.List.{list_all}
use Rattle.calculations.specs.Calculation.{exact}
use Rattle.fractions.specs.Rational.{ℚ}
use Rattle.fractions.specs.Floor.{floor_ℚ}
use Rattle.cell_refs.specs.declared.error_kind.ErrorKind.{ErrorKind}
use Rattle.cell_refs.specs.declared.error_kind.ErrorKind.TheVariants as kind
use Rattle.sheet_model.specs.Grids.{Rectangle}
use Rattle.sheet_model.specs.Operators.{single}
use Rattle.sheet_model.specs.declared.value.Value.{Value}
use Rattle.sheet_model.specs.declared.value.Value.TheVariants.{Error}
use Rattle.sheet_model.specs.declared.grid.Arg.{Arg}
use Rattle.sheet_model.specs.declared.grid.Arg.TheVariants.{One}
use Rattle.sheet_funcs.specs.Arguments as functions
use Rattle.sheet_funcs.specs.Arguments.{below}
use Rattle.sheet_funcs.specs.Criteria.{met}
use Rattle.sheet_funcs.specs.Items.{numbers_among}
use Rattle.sheet_funcs.specs.Lookups.{lookup_pick, vlookup_of, hlookup_of}
use Rattle.sheet_funcs.specs.Products as products
use Rattle.sheet_funcs.specs.Picks.{pick_of}
use Rattle.sheet_funcs.specs.declared.pick.Pick.{Pick}
use Rattle.sheet_funcs.specs.declared.pick.Pick.TheVariants.{Part, Fault}
use Rattle.sheet_funcs.specs.Rounding.{number_of}
use Rattle.affine_forms.specs.Forms.{Assignment}
use Rattle.form_values.specs.Meaning.{abs_at, arg_at}
use Rattle.form_values.specs.Trials.{Refusal, Breaks, Undecided}
use Rattle.form_values.specs.Grids.{Raster}
use Rattle.form_values.specs.declared.abs.Abs.{Abs}
use Rattle.form_values.specs.declared.abs.Abs.TheVariants.{Known}
use Rattle.form_values.specs.declared.abs.AbsArg.{AbsArg}
use Rattle.form_table.specs.Wanted as open_values
use Rattle.form_table.specs.Wanted.{value_of, grid_of}
use Rattle.form_table.specs.Choosing.{choice_at, choose_form}
use Rattle.form_table.specs.Certain.{is_no_choice, index_error}
use Rattle.form_table.specs.CertainRecords.{record_error}
use Rattle.form_table.specs.Criteria.{places_from, met_places, summed_error}
use Rattle.form_table.specs.Lookups.{lookup_pick_form, record_form, kinds_in}
use Rattle.form_table.specs.Products.{at, transposed}
use Rattle.form_table.specs.Picks.{pick_form}
use Rattle.form_truth.specs.Rows.{ArgumentVaries}

abbrev pub IsPick : {A : Type 0} → (Assignment → A) → List AbsArg → Result A Refusal → Type 0
IsPick value args (Ok p) = (x : Assignment) → value x ≡ p
IsPick value args (Err Breaks) = ⊥
IsPick value args (Err (Undecided i)) = ArgumentVaries arg_at args i

-- INDEX, whose grid is its first argument
abbrev pub IndexIsRight : Type 0
IndexIsRight =
    (rows columns : ℕ) (grid : AbsArg) (places : List AbsArg) → IsPick (λ x. pick_of rows columns (map (arg_at x) places)) (grid ∷ places) (exact (pick_form rows columns places))

-- an error that is certainly picked of a grid with these elements: out of range there is no other, and else one element is picked that is it
abbrev pub IsErrorPicked : ErrorKind → ℕ → List Abs → Pick → Type 0
IsErrorPicked k columns items (Fault l) = l ≡ k
IsErrorPicked k columns items (Part top left bottom right) = (bottom ≡ top) × (right ≡ left) × (slice_get items (top * columns + left) ≡ Some (Known (Error k)))

abbrev pub CertainIsPicked : Type 0
CertainIsPicked =
    (x : Assignment) (rows columns : ℕ) (items : List Abs) (places : List AbsArg) (k : ErrorKind) → index_error rows columns items places ≡ Some k
    → IsErrorPicked k columns items (pick_of rows columns (map (arg_at x) places))

-- MATCH of a key, keys and a kind
abbrev pub FoundIsRight : Type 0
FoundIsRight =
    (key keys kind : AbsArg) → IsPick (λ x. lookup_pick (arg_at x key) (arg_at x keys) (number_of (arg_at x kind))) (key ∷ keys ∷ kind ∷ []) (exact (lookup_pick_form key keys (open_values.number_of kind)))

-- ---- VLOOKUP
-- the first element of each row
abbrev pub first_column : Raster → List Abs
first_column g = map (λ row. at g row 0) (below g.rows)

-- the element of a record and a field, or an error
abbrev pub read : Rectangle → Result (ℕ × ℕ) ErrorKind → Value
read g (Ok place) = functions.at g place.0 place.1
read g (Err k) = Error k

abbrev pub IsRecord : (Assignment → Arg) → (Assignment → Rectangle) → List AbsArg → Result (Result (ℕ × ℕ) ErrorKind) Refusal → Type 0
IsRecord value table args (Ok r) = (x : Assignment) → value x ≡ One (read (table x) r)
IsRecord value table args (Err Breaks) = ⊥
IsRecord value table args (Err (Undecided i)) = ArgumentVaries arg_at args i

abbrev pub LookupIsRight : Type 0
LookupIsRight =
    (key table column : AbsArg) (rest : List AbsArg) → IsRecord (λ x. exact (vlookup_of (map (arg_at x) (key ∷ table ∷ column ∷ rest)))) (λ x. functions.grid_of (arg_at x table)) (key ∷ table ∷ column ∷ rest)
    (exact (record_form (grid_of table).columns (first_column (grid_of table)) (value_of key) (open_values.number_of column) (kinds_in rest)))

-- HLOOKUP is the same with rows and columns exchanged
abbrev pub AcrossIsRight : Type 0
AcrossIsRight =
    (key table row : AbsArg) (rest : List AbsArg) → IsRecord (λ x. exact (hlookup_of (map (arg_at x) (key ∷ table ∷ row ∷ rest)))) (λ x. products.transposed (functions.grid_of (arg_at x table))) (key ∷ table ∷ row ∷ rest)
    (exact (record_form (transposed (grid_of table)).columns (first_column (transposed (grid_of table))) (value_of key) (open_values.number_of row) (kinds_in rest)))

-- the error that they certainly find in a table with these elements is their value
abbrev pub CertainIsFound : Type 0
CertainIsFound =
    (x : Assignment) (key table column : AbsArg) (rest : List AbsArg) (k : ErrorKind)
    → record_error (grid_of table).columns (map Some (grid_of table).items) (first_column (grid_of table)) (value_of key) (open_values.number_of column) (kinds_in rest) ≡ Some k
    → exact (vlookup_of (map (arg_at x) (key ∷ table ∷ column ∷ rest))) ≡ One (Error k)

abbrev pub CertainIsFoundAcross : Type 0
CertainIsFoundAcross =
    (x : Assignment) (key table row : AbsArg) (rest : List AbsArg) (k : ErrorKind)
    → record_error (transposed (grid_of table)).columns (map Some (transposed (grid_of table)).items) (first_column (transposed (grid_of table))) (value_of key) (open_values.number_of row) (kinds_in rest) ≡ Some k
    → exact (hlookup_of (map (arg_at x) (key ∷ table ∷ row ∷ rest))) ≡ One (Error k)

-- ---- SUMIF: the places of the elements that meet the criterion; the tested grid is its first argument
abbrev pub PlacesAreRight : Type 0
PlacesAreRight =
    (tested criterion : AbsArg) → IsPick (λ x. places_from 0 (functions.value_of (arg_at x criterion)) (functions.elements_of (arg_at x tested))) (tested ∷ criterion ∷ [])
    (exact (met_places (grid_of tested).items (value_of criterion)))

-- an error that is certainly the first among the summed elements is so under every assignment
abbrev pub CertainIsSummed : Type 0
CertainIsSummed =
    (x : Assignment) (criterion : Value) (summed tested : List Abs) (k : ErrorKind) → summed_error criterion summed tested ≡ Some k
    → numbers_among (met criterion (map (abs_at x) tested) (map (abs_at x) summed)) ≡ Err k

-- ---- CHOOSE, by the number that the place is
abbrev pub chosen_by : List AbsArg → Result ℚ ErrorKind → Result AbsArg ErrorKind
chosen_by choices (Err k) = Err k
chosen_by choices (Ok x) = choice_at choices (floor_ℚ x)

abbrev pub ChosenIsRight : Type 0
ChosenIsRight =
    (place : AbsArg) (choices : List AbsArg) → IsPick (λ x. chosen_by choices (number_of (arg_at x place))) (place ∷ choices) (exact (choose_form place choices))

-- and where each choice is the error that stands where there is none, it is so at each place
abbrev pub worth_chosen : Assignment → Result AbsArg ErrorKind → Arg
worth_chosen x (Ok a) = single (arg_at x a)
worth_chosen x (Err k) = One (Error k)

abbrev pub CertainIsChosen : Type 0
CertainIsChosen = (x : Assignment) (choices : List AbsArg) (place : ℤ) → list_all is_no_choice choices ≡ true → worth_chosen x (choice_at choices place) ≡ One (Error kind.Value)
