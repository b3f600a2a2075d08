-- The outcome of calls over their parts.
use Rattle.std.specs.Prelude.{ℕ, ◌+◌, ◌-◌, ◌*◌, pos, ◌&&◌, ◌==◌, Bool, false, if◌then◌else◌, List, [], ◌∷◌, slice_get, ℤ, Option, Some, None, Result, Ok, Err}
use Rattle.std.specs.List.{list_all}
use Rattle.fractions.specs.Whole.{whole_ℚ}
use Rattle.cell_refs.specs.declared.cell.Cell.{Cell}
use Rattle.cell_refs.specs.declared.span.Span.{Span}
use Rattle.cell_refs.specs.declared.error_kind.ErrorKind.{ErrorKind}
use Rattle.cell_refs.specs.declared.error_kind.ErrorKind.TheVariants as kind
use Rattle.formula_ast.specs.declared.func.Func.{Func}
use Rattle.formula_ast.specs.declared.func.Func.TheVariants as func
use Rattle.sheet_model.specs.Conversions.{logical_in}
use Rattle.sheet_model.specs.declared.value.Value.TheVariants.{Number, Logical, Error}
use Rattle.sheet_funcs.specs.declared.pick.Pick.{Pick}
use Rattle.sheet_funcs.specs.declared.pick.Pick.TheVariants.{Part as Picked, Fault}
use Rattle.recalculation.specs.Evaluation.{CellGrid, at_chosen, if_place, if_without, iferror_place, choose_place, choose_without}
use Rattle.recalculation.specs.Looks.{exchanged as exchanged_cells}
use Rattle.affine_forms.specs.Forms.{AffineForm}
use Rattle.affine_forms.specs.declared.rel.Rel.{Rel}
use Rattle.affine_forms.specs.declared.rel.Rel.TheVariants as rel
use Rattle.form_values.specs.declared.abs.Abs.{Abs}
use Rattle.form_values.specs.declared.abs.Abs.TheVariants.{Known, Affine, Test}
use Rattle.form_values.specs.declared.abs.AbsArg.{AbsArg}
use Rattle.form_values.specs.declared.abs.AbsArg.TheVariants.{One, Area}
use Rattle.form_table.specs.Wanted.{value_of, number_of, known_number, single, grid_of}
use Rattle.form_table.specs.Choosing.{if_test}
use Rattle.form_table.specs.Certain.{is_no_choice, index_error}
use Rattle.form_table.specs.CertainRecords.{record_error}
use Rattle.form_table.specs.Picks.{pick_form}
use Rattle.form_table.specs.Lookups.{record_form, kinds_in, known_value, error_of}
use Rattle.form_table.specs.Criteria.{met_places, sum_of_elements, summed_error_by}
use Rattle.form_table.specs.Table.{form_called}
use Rattle.form_extraction.specs.Parts.{Part, value_in, tried_on, outcome_by, on_part, on_parts}
use Rattle.form_extraction.specs.declared.forms.Outcome.{Outcome}
use Rattle.form_extraction.specs.declared.forms.Outcome.TheVariants.{Gives, Refused}
use Rattle.form_extraction.specs.declared.forms.Why.TheVariants as why
use Rattle.form_extraction.specs.Deciding.{is_known_error, place_in}
use Rattle.form_extraction.specs.Sources.{Source, items_seen, on_source, on_turned, taken, part_places, key_places, exchanged}

-- an error as the value
abbrev pub fails : ErrorKind → Outcome
fails k = Gives (One (Known (Error k)))

abbrev pub unless_error : Option ErrorKind → Outcome → Outcome
unless_error (Some k) o = fails k
unless_error None o = o

-- the elements of a grid that are looked at before it is known which are picked or summed: of a reference none are
abbrev pub seen_before : Option CellGrid → Outcome → List Abs
seen_before (Some g) o = []
seen_before None (Gives a) = (grid_of a).items
seen_before None o = []

-- ---- functions that choose
-- the chosen part, as a single value where it has one element, or what stands where none is chosen
abbrev pub chosen_or : AbsArg → Option Part → Outcome
chosen_or without (Some p) = on_part p (λ a. Gives (single a))
chosen_or without None = Gives without

-- of an open test both branches; FALSE where there is no second one
abbrev pub on_branch : Option Part → (AbsArg → Outcome) → Outcome
on_branch (Some p) f = on_part p f
on_branch None f = f (One (Known (Logical false)))

abbrev pub both_branches : Span → Part → List Part → AffineForm → Rel → Outcome
both_branches whole test others t r =
    on_branch (slice_get others 0) (λ one. on_branch (slice_get others 1) (λ other. outcome_by whole (test ∷ others) (if_test t r one other)))

abbrev pub by_test : Span → Part → List Part → Abs → Outcome
by_test whole test others (Known v) = chosen_or (One (Known (if_without (logical_in v)))) (at_chosen others (if_place (logical_in v)))
by_test whole test others (Affine o) = both_branches whole test others o.form rel.Ne
by_test whole test others (Test o r) = both_branches whole test others o.form r

abbrev pub if_outcome : Span → List Part → Outcome
if_outcome whole (test ∷ others) = on_part test (λ a. by_test whole test others (value_of a))
if_outcome whole [] = fails kind.Value

-- the first argument, or the second where that is an error
abbrev pub by_error : List Part → AbsArg → Outcome
by_error others a = chosen_or a (at_chosen others (iferror_place (is_known_error a)))

abbrev pub iferror_outcome : List Part → Outcome
iferror_outcome (p ∷ others) = on_part p (λ a. by_error others (single a))
iferror_outcome [] = fails kind.Value

-- whether an argument is the error that stands where none is chosen, without a look at a cell: at an open place no other is looked at
abbrev pub is_no_choice_in : Option AbsArg → Bool
is_no_choice_in (Some a) = is_no_choice a
is_no_choice_in None = false

abbrev pub is_unlooked_error : List Cell → Outcome → Bool
is_unlooked_error [] o = is_no_choice_in (value_in o)
is_unlooked_error (c ∷ cells) o = false

abbrev pub is_no_argument : Part → Bool
is_no_argument p = is_unlooked_error p.looks p.outcome

-- the argument at a place, counted from 1; the place has to be known, unless each argument is certainly that error
abbrev pub by_place : Part → List Part → Option (Result ℤ ErrorKind) → Outcome
by_place place others (Some n) = chosen_or (One (Known (choose_without n))) (at_chosen others (choose_place n))
by_place place others None = if list_all is_no_argument others then fails kind.Value else Refused place.span why.Undecided

abbrev pub choose_outcome : List Part → Outcome
choose_outcome (place ∷ others) = on_part place (λ a. by_place place others (place_in (number_of a) (known_number (number_of a))))
choose_outcome [] = fails kind.Value

-- ---- functions that pick
abbrev pub raster : ℕ → ℕ → List Abs → AbsArg
raster rows columns items = single (Area (record { rows = rows; columns = columns; items = items }))

abbrev pub picked_from : Source → Pick → Outcome
picked_from s (Picked top left bottom right) =
    taken s (part_places s top left bottom right) (λ items. Gives (raster (bottom + 1 - top) (right + 1 - left) items))
picked_from s (Fault k) = fails k

-- among the elements seen before, an error may certainly be picked
abbrev pub picked_at : Span → List Part → Source → List Abs → List AbsArg → Outcome
picked_at whole parts s seen args =
    unless_error (index_error s.rows s.columns seen args) (tried_on whole parts (pick_form s.rows s.columns args) (picked_from s))

abbrev pub index_outcome : (Cell → Option Abs) → Span → List Part → Outcome
index_outcome forms whole (p ∷ places) = on_source forms p (λ s. on_parts places (picked_at whole (p ∷ places) s (seen_before p.reference p.outcome)))
index_outcome forms whole [] = fails kind.Value

abbrev pub record_from : Source → Result (ℕ × ℕ) ErrorKind → Outcome
record_from s (Ok place) = taken s ((place.0 * s.columns + place.1) ∷ []) (λ items. Gives (raster 1 1 items))
record_from s (Err k) = fails k

-- the key, the keys, the field, and whether the keys are sorted; among the elements that are seen an error may be certain
abbrev pub lookup_by : Span → List Part → Source → List Abs → List AbsArg → Outcome
lookup_by whole parts s keys (key ∷ field ∷ rest) =
    unless_error (record_error s.columns (items_seen s) keys (value_of key) (number_of field) (kinds_in rest))
    (tried_on whole parts (record_form s.columns keys (value_of key) (number_of field) (kinds_in rest)) (record_from s))
lookup_by whole parts s keys _ = fails kind.Value

abbrev pub lookup_outcome : (Cell → Option Abs) → (CellGrid → CellGrid) → (Source → Source) → Span → List Part → Outcome
lookup_outcome forms cells turned whole (key ∷ table ∷ rest) =
    on_part key (λ k. on_turned forms cells turned table (λ s. taken s (key_places s) (λ keys. on_parts rest (λ args. lookup_by whole (key ∷ table ∷ rest) s keys (k ∷ args)))))
lookup_outcome forms cells turned whole _ = fails kind.Value

-- the elements of the summed grid where the tested one, of its size, meets the criterion; among those seen before an error may be certain
abbrev pub sum_at : Span → List Part → Source → List Abs → AbsArg → AbsArg → Outcome
sum_at whole parts s seen tested criterion =
    if ((grid_of tested).rows == s.rows) && ((grid_of tested).columns == s.columns)
    then unless_error (summed_error_by (known_value (value_of criterion)) seen (grid_of tested).items)
    (tried_on whole parts (met_places (grid_of tested).items (value_of criterion))
    (λ places. taken s places (λ items. outcome_by whole parts (sum_of_elements items))))
    else fails kind.Value

abbrev pub sum_over : (Cell → Option Abs) → Span → List Part → Part → Part → Part → Outcome
sum_over forms whole parts tested criterion summed =
    on_part tested (λ a. on_part criterion (λ c. on_source forms summed
    (λ s. unless_error (error_of (value_of c)) (sum_at whole parts s (seen_before summed.reference summed.outcome) a c))))

-- the tested grid is summed where no other is given
abbrev pub sumif_outcome : (Cell → Option Abs) → Span → List Part → Outcome
sumif_outcome forms whole (tested ∷ criterion ∷ []) = sum_over forms whole (tested ∷ criterion ∷ []) tested criterion tested
sumif_outcome forms whole (tested ∷ criterion ∷ summed ∷ []) = sum_over forms whole (tested ∷ criterion ∷ summed ∷ []) tested criterion summed
sumif_outcome forms whole _ = fails kind.Value

-- ---- the size of a reference is that of its grid, whatever its cells are
abbrev pub size_of : (Source → ℕ) → (Cell → Option Abs) → List Part → Outcome
size_of count forms (p ∷ []) = on_source forms p (λ s. Gives (One (Known (Number (whole_ℚ (pos (count s)))))))
size_of count forms _ = fails kind.Value

-- ---- all calls
abbrev pub call_outcome : (Cell → Option Abs) → Span → Func → List Part → Outcome
call_outcome forms whole func.If ps = if_outcome whole ps
call_outcome forms whole func.IfError ps = iferror_outcome ps
call_outcome forms whole func.Choose ps = choose_outcome ps
call_outcome forms whole func.Index ps = index_outcome forms whole ps
call_outcome forms whole func.VLookup ps = lookup_outcome forms (λ g. g) (λ s. s) whole ps
call_outcome forms whole func.HLookup ps = lookup_outcome forms exchanged_cells exchanged whole ps
call_outcome forms whole func.SumIf ps = sumif_outcome forms whole ps
call_outcome forms whole func.Rows ps = size_of (λ s. s.rows) forms ps
call_outcome forms whole func.Columns ps = size_of (λ s. s.columns) forms ps
call_outcome forms whole f ps = on_parts ps (λ args. outcome_by whole ps (form_called f args))
