-- SUMIF and COUNTIF (OpenDocument 1.2 part 2, sections 6.16.62 and 6.13.7) on open values: the tested grid and the criterion have to
-- be known, and the summed elements are added whatever they are. Where elements of the tested grid are open, an error that is the first
-- among the summed ones whatever these hold is the result.
use Rattle.std.specs.Prelude.{ℕ, suc, ◌==◌, if◌then◌else◌, List, [], ◌∷◌, Option, Some, None}
use Rattle.std.specs.List.{filter_map}
use Rattle.form_values.specs.FromSheetModel.{Value}
use Rattle.form_values.specs.FromSheetModel.{Number}
use Rattle.sheet_funcs.specs.Sums.{how_many}
use Rattle.cell_refs.specs.declared.error_kind.ErrorKind.{ErrorKind}
use Rattle.sheet_funcs.specs.Criteria.{meets}
use Rattle.affine_forms.specs.Steps.{total}
use Rattle.form_values.specs.Trials.{Trial, given, undecided, made, one, and_then}
use Rattle.form_values.specs.declared.abs.Abs.{Abs}
use Rattle.form_values.specs.declared.abs.Abs.TheVariants.{Known}
use Rattle.form_values.specs.declared.abs.AbsArg.{AbsArg}
use Rattle.form_values.specs.declared.abs.AbsArg.TheVariants.{One}
use Rattle.form_table.specs.Wanted.{value_of, grid_of}
use Rattle.form_values.specs.Entries.{entry}
use Rattle.form_table.specs.Items.{item_at, form_in, first_error}
use Rattle.form_table.specs.Choosing.{place_of}
use Rattle.form_table.specs.Lookups.{known_value, known_keys, error_of}
use Rattle.form_table.specs.Products.{or_fault}

-- the places, from 0, of the elements that meet a criterion
abbrev pub places_from : ℕ → Value → List Value → List ℕ
places_from i criterion [] = []
places_from i criterion (v ∷ vs) = if meets criterion v then i ∷ places_from (suc i) criterion vs else places_from (suc i) criterion vs

-- both have to be known
abbrev pub by_known : Option (List Value) → Option Value → Trial (List ℕ)
by_known None criterion = undecided 0
by_known tested None = undecided 1
by_known (Some vs) (Some criterion) = given (places_from 0 criterion vs)

-- the places to be summed or counted
abbrev pub met_places : List Abs → Abs → Trial (List ℕ)
met_places tested criterion = by_known (known_keys tested) (known_value criterion)

-- the sum of the numbers of some elements, or the first error among them
abbrev pub sum_of_elements : List Abs → Trial AbsArg
sum_of_elements items =
    let ws = filter_map item_at items in
    or_fault (first_error ws) (one (made entry (total (filter_map form_in ws))))

-- ---- errors that are certainly summed
-- beside an open element, which may meet the criterion or not, an error makes no difference if it is the one that follows anyhow
abbrev pub if_same : ErrorKind → Option ErrorKind → Option ErrorKind
if_same k None = None
if_same k (Some l) = if place_of k == place_of l then Some l else None

-- an element of the tested grid with the error that stands beside it, if one does, before what is certain of those that follow
abbrev pub certain_beside : Value → Abs → Option ErrorKind → Option ErrorKind → Option ErrorKind
certain_beside criterion a None later = later
certain_beside criterion (Known v) (Some k) later = if meets criterion v then Some k else later
certain_beside criterion a (Some k) later = if_same k later

-- the error that is the first among the summed elements, whatever the open elements of the tested grid hold, if there is such a one
abbrev pub summed_error : Value → List Abs → List Abs → Option ErrorKind
summed_error criterion [] tested = None
summed_error criterion (a ∷ summed) [] = None
summed_error criterion (a ∷ summed) (b ∷ tested) = certain_beside criterion b (error_of a) (summed_error criterion summed tested)

-- no error is certain by a criterion that isn't known
abbrev pub summed_error_by : Option Value → List Abs → List Abs → Option ErrorKind
summed_error_by None summed tested = None
summed_error_by (Some criterion) summed tested = summed_error criterion summed tested

-- ---- COUNTIF: an error as the criterion is the result
abbrev pub countif_form : AbsArg → AbsArg → Trial AbsArg
countif_form tested criterion =
    or_fault (error_of (value_of criterion))
    (and_then (met_places (grid_of tested).items (value_of criterion)) (λ places. given (One (Known (Number (how_many places))))))
