-- MATCH, VLOOKUP and HLOOKUP (OpenDocument 1.2 part 2, sections 6.14.9, 6.14.12 and 6.14.5) with open arguments: which place they
-- find. The keys, the key and what else decides has to be known; what is certain without an open one is the result all the same: a key
-- that is certainly found nowhere, as among sorted keys where one beyond it ends the search before the first open one, is an error.
use Rattle.std.specs.Prelude.{ℕ, ◌-◌, Bool, true, false, not, ◌&&◌, ◌||◌, ◌==◌, if◌then◌else◌, List, [], ◌∷◌, map, ℤ, pos, negsuc, int_le, Option, Some, None, is_none, Result, Ok, Err}
use Rattle.std.specs.List.{list_all, list_any}
use Rattle.fractions.specs.Rational.{ℚ}
use Rattle.fractions.specs.Floor.{floor_ℚ}
use Rattle.fractions.specs.Whole.{whole_ℚ}
use Rattle.cell_refs.specs.declared.error_kind.ErrorKind.{ErrorKind}
use Rattle.cell_refs.specs.declared.error_kind.ErrorKind.TheVariants as kind
use Rattle.form_values.specs.FromSheetModel.{logical_in}
use Rattle.form_values.specs.FromSheetModel.{Value}
use Rattle.form_values.specs.FromSheetModel.{Error}
use Rattle.sheet_funcs.specs.Lookups.{is_key, is_greater_than, is_less_than, found, kind_of, place_value}
use Rattle.sheet_funcs.specs.declared.pick.Pick.{Pick}
use Rattle.sheet_funcs.specs.declared.pick.Pick.TheVariants.{Part, Fault}
use Rattle.sheet_funcs.specs.declared.lookups.MatchKind.{MatchKind}
use Rattle.sheet_funcs.specs.declared.lookups.MatchKind.TheVariants.{Equal, Rising, Falling}
use Rattle.affine_forms.specs.Forms.{constant_form}
use Rattle.form_values.specs.Grids.{Raster}
use Rattle.form_values.specs.Trials.{Trial, given, undecided, and_then}
use Rattle.form_values.specs.declared.abs.Abs.{Abs}
use Rattle.form_values.specs.declared.abs.Abs.TheVariants.{Known}
use Rattle.form_values.specs.declared.abs.AbsArg.{AbsArg}
use Rattle.form_values.specs.declared.abs.AbsArg.TheVariants.{One}
use Rattle.form_table.specs.Wanted.{Wanted, form, open_test, none, value_of, number_of, known_number, grid_of}
use Rattle.form_values.specs.Known.{is_known, value_in}

-- ---- keys
-- whether an element may be a key: an open one may, and of the known ones what is empty and what is an error isn't
abbrev pub may_be_key : Abs → Bool
may_be_key (Known v) = is_key v
may_be_key a = true

-- a key that is known, and the error that it may be
abbrev pub known_value : Abs → Option Value
known_value (Known v) = Some v
known_value a = None

abbrev pub error_of : Abs → Option ErrorKind
error_of (Known (Error k)) = Some k
error_of a = None

-- the values of the keys, where all are known
abbrev pub known_keys : List Abs → Option (List Value)
known_keys items = if list_all is_known items then Some (map value_in items) else None

-- the values of the keys before the first that isn't known
abbrev pub front : List Abs → List Value
front [] = []
front (Known v ∷ items) = v ∷ front items
front (a ∷ items) = []

-- whether a value beyond the key ends a search among sorted keys; a search for an equal one is ended by none
abbrev pub ends_within : MatchKind → Value → List Value → Bool
ends_within Equal key vs = false
ends_within Rising key vs = list_any (is_greater_than key) vs
ends_within Falling key vs = list_any (is_less_than key) vs

-- whether no place is found whatever the open keys hold: the search ends before the first of them, if there is any, and finds none
abbrev pub is_never_found : MatchKind → Value → List Abs → Bool
is_never_found kind key items = (list_all is_known items || ends_within kind key (front items)) && is_none (found kind key (front items))

-- ---- MATCH
-- the place in a row or in a column
abbrev pub pick_in : Raster → Option ℕ → Pick
pick_in g None = Fault kind.NotAvailable
pick_in g (Some i) = if g.rows == 1 then Part 0 i 0 i else Part i 0 i 0

-- an open logical as the kind comes first; then the key, the keys and the kind have to be known
abbrev pub by_kind : Raster → Value → List Value → Option ℚ → Trial Pick
by_kind g key keys (Some x) = given (pick_in g (found (kind_of x) key keys))
by_kind g key keys None = undecided 2

abbrev pub by_keys : Raster → Option Value → Option (List Value) → Wanted → Trial Pick
by_keys g key keys open_test = undecided 2
by_keys g None keys x = undecided 0
by_keys g key None x = undecided 1
by_keys g (Some key) (Some keys) x = by_kind g key keys (known_number x)

-- whether a known key is never found by a known kind; of three kinds one finds it, so by an open kind it may be found
abbrev pub has_no_place : Option ℚ → Option Value → List Abs → Bool
has_no_place (Some x) (Some key) items = is_never_found (kind_of x) key items
has_no_place _ _ items = false

abbrev pub by_places : Raster → Option Value → Wanted → Trial Pick
by_places g key x = if has_no_place (known_number x) key g.items then given (Fault kind.NotAvailable) else by_keys g key (known_keys g.items) x

-- errors of the key and of the kind; a grid of several rows and columns, and one without a key, have no place for any key
abbrev pub lookup_form : Raster → Abs → Wanted → Trial Pick
lookup_form g (Known (Error k)) x = given (Fault k)
lookup_form g key (none k) = given (Fault k)
lookup_form g key x =
    if ((g.rows == 1) || (g.columns == 1)) && list_any may_be_key g.items
    then by_places g (known_value key) x
    else given (Fault kind.NotAvailable)

-- of a key and keys as arguments
abbrev pub lookup_pick_form : AbsArg → AbsArg → Wanted → Trial Pick
lookup_pick_form key keys x = lookup_form (grid_of keys) (value_of key) x

-- MATCH takes kind 1 where none is given
abbrev pub match_pick : List AbsArg → Trial Pick
match_pick (key ∷ keys ∷ []) = lookup_pick_form key keys (form (constant_form (whole_ℚ (pos 1))))
match_pick (key ∷ keys ∷ x ∷ []) = lookup_pick_form key keys (number_of x)
match_pick _ = given (Fault kind.Value)

abbrev pub match_form : List AbsArg → Trial AbsArg
match_form args = and_then (match_pick args) (λ p. given (One (Known (place_value p))))

-- ---- VLOOKUP and HLOOKUP
-- the kinds of search that the argument may ask for which says whether the keys are sorted; one where it is known
abbrev pub kinds_by : Result Bool ErrorKind → Result (List MatchKind) ErrorKind
kinds_by (Ok b) = Ok ((if b then Rising else Equal) ∷ [])
kinds_by (Err k) = Err k

abbrev pub kinds_of : Abs → Result (List MatchKind) ErrorKind
kinds_of (Known v) = kinds_by (logical_in v)
kinds_of a = Ok (Equal ∷ Rising ∷ [])

-- they are taken as sorted where nothing is said
abbrev pub kinds_in : List AbsArg → Result (List MatchKind) ErrorKind
kinds_in [] = Ok (Rising ∷ [])
kinds_in (a ∷ _) = kinds_of (value_of a)

-- the field, from 0, at a known place that is counted from 1
abbrev pub from_one : ℤ → ℕ
from_one (pos n) = n - 1
from_one (negsuc n) = 0

abbrev pub field_at : ℕ → ℤ → Result ℕ ErrorKind
field_at fields n = if int_le n (pos 0) then Err kind.Value else if int_le n (pos fields) then Ok (from_one n) else Err kind.Ref

-- whether no kind of search ever finds a known key
abbrev pub is_missing : Option Value → List Abs → List MatchKind → Bool
is_missing (Some key) keys kinds = list_all (λ kind. is_never_found kind key keys) kinds
is_missing None keys kinds = false

-- the record and the field that are found, or an error
abbrev pub at_record : ℕ → Option ℕ → Result (ℕ × ℕ) ErrorKind
at_record field (Some place) = Ok (place, field)
at_record field None = Err kind.NotAvailable

-- the key and the keys have to be known, and there has to be one kind of search
abbrev pub by_record : ℕ → Option Value → Option (List Value) → List MatchKind → Trial (Result (ℕ × ℕ) ErrorKind)
by_record field None keys kinds = undecided 0
by_record field key None kinds = undecided 1
by_record field (Some key) (Some keys) (kind ∷ []) = given (at_record field (found kind key keys))
by_record field key keys kinds = undecided 3

-- a known field that is out of range, and then keys among which there is none for any key or never this one, are certain errors
abbrev pub in_field : Result ℕ ErrorKind → Abs → List Abs → List MatchKind → Trial (Result (ℕ × ℕ) ErrorKind)
in_field (Err k) key keys kinds = given (Err k)
in_field (Ok field) key keys kinds =
    if not (list_any may_be_key keys) || is_missing (known_value key) keys kinds
    then given (Err kind.NotAvailable)
    else by_record field (known_value key) (known_keys keys) kinds

-- an open field: an open logical comes first, and then the key and the keys have to be known
abbrev pub open_field : Wanted → Abs → List Abs → Trial (Result (ℕ × ℕ) ErrorKind)
open_field open_test key keys = undecided 2
open_field w key keys = if not (is_known key) then undecided 0 else if not (list_all is_known keys) then undecided 1 else undecided 2

-- where the field is known, and where it is open
abbrev pub by_field : Option ℚ → ℕ → Wanted → Abs → List Abs → List MatchKind → Trial (Result (ℕ × ℕ) ErrorKind)
by_field (Some x) fields w key keys kinds = in_field (field_at fields (floor_ℚ x)) key keys kinds
by_field None fields w key keys kinds = open_field w key keys

-- errors of the key, of the field and of the last argument come first, in this order
abbrev pub record_form : ℕ → List Abs → Abs → Wanted → Result (List MatchKind) ErrorKind → Trial (Result (ℕ × ℕ) ErrorKind)
record_form fields keys (Known (Error k)) w kinds = given (Err k)
record_form fields keys key (none k) kinds = given (Err k)
record_form fields keys key w (Err k) = given (Err k)
record_form fields keys key w (Ok kinds) = by_field (known_number w) fields w key keys kinds
