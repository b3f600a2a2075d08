-- Errors that VLOOKUP and HLOOKUP certainly find though the key, keys or the kind of search are open (OpenDocument 1.2 part 2, sections
-- 6.14.12 and 6.14.5): each record that may be found has the same error in a known field, and where none may be found that is #N/A.
use Rattle.std.specs.Prelude.{ℕ, ◌+◌, ◌*◌, Bool, true, false, if◌then◌else◌, List, [], ◌∷◌, slice_get, Option, Some, None, is_none, Result, Ok, Err}
use Rattle.fractions.specs.Rational.{ℚ}
use Rattle.fractions.specs.Floor.{floor_ℚ}
use Rattle.cell_refs.specs.declared.error_kind.ErrorKind.{ErrorKind}
use Rattle.cell_refs.specs.declared.error_kind.ErrorKind.TheVariants as kind
use Rattle.form_values.specs.FromSheetModel.{Value}
use Rattle.sheet_funcs.specs.Lookups.{is_key, is_equal_to, is_greater_than, is_less_than}
use Rattle.sheet_funcs.specs.declared.lookups.MatchKind.{MatchKind}
use Rattle.sheet_funcs.specs.declared.lookups.MatchKind.TheVariants.{Equal, Rising, Falling}
use Rattle.form_values.specs.declared.abs.Abs.{Abs}
use Rattle.form_values.specs.declared.abs.Abs.TheVariants.{Known}
use Rattle.form_table.specs.Wanted.{Wanted, known_number}
use Rattle.form_table.specs.Criteria.{if_same}
use Rattle.form_table.specs.Lookups.{may_be_key, known_value, error_of, field_at}

-- one error, where two are the same
abbrev pub same_error : Option ErrorKind → Option ErrorKind → Option ErrorKind
same_error None o = None
same_error (Some k) o = if_same k o

-- ---- where a search ends: at the first key that is equal, or among sorted keys at the first beyond the key
abbrev pub ends_at : MatchKind → Value → Value → Bool
ends_at Equal key v = is_equal_to key v
ends_at Rising key v = is_greater_than key v
ends_at Falling key v = is_less_than key v

-- whether it does at an element, where that is known: it isn't at an open element, nor of an open key at any key
abbrev pub known_end : MatchKind → Option Value → Value → Option Bool
known_end search (Some key) v = Some (ends_at search key v)
known_end search None v = if is_key v then None else Some false

abbrev pub end_at : MatchKind → Option Value → Abs → Option Bool
end_at search key (Known v) = known_end search key v
end_at search key a = None

-- ---- the error of what a search finds, by that of each record
abbrev pub Errors : Type 0
Errors = ℕ → Option ErrorKind

-- where it ends, an equal key is found there, and among sorted keys the last one before
abbrev pub error_there : MatchKind → Option ErrorKind → Option ErrorKind → Option ErrorKind
error_there Equal here before = here
error_there search here before = before

-- what would be found if it ended behind a record
abbrev pub error_behind : MatchKind → Bool → Option ErrorKind → Option ErrorKind → Option ErrorKind
error_behind Equal b here before = before
error_behind search b here before = if b then here else before

-- where it isn't known whether it ends, both have to be the same
abbrev pub if_ends : Option Bool → Option ErrorKind → Option ErrorKind → Option ErrorKind
if_ends (Some true) there later = there
if_ends (Some false) there later = later
if_ends None there later = same_error there later

-- among the keys from a place on, by the error of what would be found if it ended before them
abbrev pub search_error : MatchKind → Errors → Option Value → ℕ → Option ErrorKind → List Abs → Option ErrorKind
search_error search error key i before [] = before
search_error search error key i before (a ∷ keys) =
    if_ends (end_at search key a) (error_there search (error i) before) (search_error search error key (i + 1) (error_behind search (may_be_key a) (error i) before) keys)

-- by all kinds that may be asked for; where nothing is found before the first key, that is #N/A
abbrev pub found_error : Errors → Option Value → List Abs → List MatchKind → Option ErrorKind
found_error error key keys [] = None
found_error error key keys (search ∷ []) = search_error search error key 0 (Some kind.NotAvailable) keys
found_error error key keys (search ∷ kinds) = same_error (search_error search error key 0 (Some kind.NotAvailable) keys) (found_error error key keys kinds)

-- ---- in a field of a table whose elements are seen, row by row; one that isn't seen is no error
abbrev pub element_error : Option (Option Abs) → Option ErrorKind
element_error (Some (Some a)) = error_of a
element_error element = None

abbrev pub errors_in : ℕ → List (Option Abs) → ℕ → Errors
errors_in fields items field row = element_error (slice_get items (row * fields + field))

abbrev pub in_field_error : ℕ → List (Option Abs) → Option Value → List Abs → List MatchKind → Result ℕ ErrorKind → Option ErrorKind
in_field_error fields items key keys kinds (Ok field) = found_error (errors_in fields items field) key keys kinds
in_field_error fields items key keys kinds (Err k) = None

abbrev pub by_field_error : ℕ → List (Option Abs) → Option Value → List Abs → Option ℚ → Result (List MatchKind) ErrorKind → Option ErrorKind
by_field_error fields items key keys (Some x) (Ok kinds) = in_field_error fields items key keys kinds (field_at fields (floor_ℚ x))
by_field_error fields items key keys x kinds = None

-- of a table of which nothing is seen there is none; errors of the arguments and of a field out of range come before, and an open field
-- may be out of range at either end
abbrev pub record_error : ℕ → List (Option Abs) → List Abs → Abs → Wanted → Result (List MatchKind) ErrorKind → Option ErrorKind
record_error fields [] keys key w kinds = None
record_error fields items keys key w kinds =
    if is_none (error_of key) then by_field_error fields items (known_value key) keys (known_number w) kinds else None
