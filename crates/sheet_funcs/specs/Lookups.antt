-- MATCH, VLOOKUP and HLOOKUP (OpenDocument 1.2 part 2, sections 6.14.9, 6.14.12 and 6.14.5).
use Rattle.std.specs.Prelude.{ℕ, zero, suc, ◌+◌, Bool, true, false, ◌&&◌, ◌||◌, ◌==◌, if◌then◌else◌, List, [], ◌∷◌, ℤ, pos, negsuc, nat_le, Option, Some, None, Result, Ok, Err}
use Rattle.std.specs.List.{before_first, position}
use Rattle.std.specs.Ordering.{is_eq, is_lt, is_gt}
use Rattle.fractions.specs.Rational.{ℚ}
use Rattle.fractions.specs.Whole.{whole_ℚ}
use Rattle.calculations.specs.Calculation.{Calculation, done}
use Rattle.cell_refs.specs.declared.error_kind.ErrorKind.{ErrorKind}
use Rattle.cell_refs.specs.declared.error_kind.ErrorKind.TheVariants as kind
use Rattle.sheet_model.specs.Tests.{is_zero, is_negative}
use Rattle.sheet_model.specs.Conversions.{logical_in}
use Rattle.sheet_model.specs.Comparison.{value_cmp}
use Rattle.sheet_model.specs.Grids.{Rectangle}
use Rattle.sheet_model.specs.declared.value.Value.{Value}
use Rattle.sheet_model.specs.declared.value.Value.TheVariants.{Number, Empty, Error}
use Rattle.sheet_model.specs.declared.grid.Arg.{Arg}
use Rattle.sheet_funcs.specs.Arguments.{column_of, grid_of, no_error, value_of, answered}
use Rattle.sheet_funcs.specs.Rounding.{number_of, place_of}
use Rattle.sheet_funcs.specs.Picks.{taken_from}
use Rattle.sheet_funcs.specs.Products.{transposed}
use Rattle.sheet_funcs.specs.declared.pick.Pick.{Pick}
use Rattle.sheet_funcs.specs.declared.pick.Pick.TheVariants.{Part, Fault}
use Rattle.sheet_funcs.specs.declared.lookups.MatchKind.{MatchKind}
use Rattle.sheet_funcs.specs.declared.lookups.MatchKind.TheVariants.{Equal, Rising, Falling}

-- what is empty and what is an error is passed over
abbrev pub is_key : Value → Bool
is_key Empty = false
is_key (Error k) = false
is_key v = true

abbrev pub is_equal_to : Value → Value → Bool
is_equal_to key v = is_key v && is_eq (value_cmp v key)

abbrev pub is_greater_than : Value → Value → Bool
is_greater_than key v = is_key v && is_gt (value_cmp v key)

abbrev pub is_less_than : Value → Value → Bool
is_less_than key v = is_key v && is_lt (value_cmp v key)

-- the last place whose value passes the test
abbrev pub last_or_this : Bool → Option ℕ → Option ℕ
last_or_this here (Some i) = Some (i + 1)
last_or_this here None = if here then Some 0 else None

abbrev pub last_place : (Value → Bool) → List Value → Option ℕ
last_place test [] = None
last_place test (v ∷ vs) = last_or_this (test v) (last_place test vs)

-- where a key is found: at the first equal value; or at the last value before the first greater one; or before the first less
abbrev pub found : MatchKind → Value → List Value → Option ℕ
found Equal key vs = position (is_equal_to key) vs
found Rising key vs = last_place is_key (before_first (is_greater_than key) vs)
found Falling key vs = last_place is_key (before_first (is_less_than key) vs)

-- 0 asks for an equal value, a number above 0 for rising and one below 0 for falling values
abbrev pub kind_of : ℚ → MatchKind
kind_of x = if is_zero x then Equal else if is_negative x then Falling else Rising

-- the place in a row or in a column
abbrev pub pick_in : Rectangle → Option ℕ → Pick
pick_in g None = Fault kind.NotAvailable
pick_in g (Some i) = if g.rows == 1 then Part 0 i 0 i else Part i 0 i 0

abbrev pub pick_by : Rectangle → Result Value ErrorKind → Result ℚ ErrorKind → Pick
pick_by g (Err k) x = Fault k
pick_by g (Ok key) (Err k) = Fault k
pick_by g (Ok key) (Ok x) =
    if (g.rows == 1) || (g.columns == 1) then pick_in g (found (kind_of x) key g.items) else Fault kind.NotAvailable

-- the place of a key in a grid of one row or one column
abbrev pub lookup_pick : Arg → Arg → Result ℚ ErrorKind → Pick
lookup_pick key keys x = pick_by (grid_of keys) (no_error (value_of key)) x

-- a place in a row or a column, counted from 1
abbrev pub place_value : Pick → Value
place_value (Part top left bottom right) = Number (whole_ℚ (pos (top + left + 1)))
place_value (Fault k) = Error k

abbrev pub match_of : List Arg → Calculation Arg
match_of (key ∷ keys ∷ []) = answered (place_value (lookup_pick key keys (Ok (whole_ℚ (pos 1)))))
match_of (key ∷ keys ∷ x ∷ []) = answered (place_value (lookup_pick key keys (number_of x)))
match_of _ = answered (Error kind.Value)

-- ---- VLOOKUP and HLOOKUP: the records of a table are its rows for VLOOKUP, and its columns for HLOOKUP
-- what is picked by what is there, or the error in its place
abbrev pub or_fault : {A : Type 0} → Result A ErrorKind → (A → Pick) → Pick
or_fault (Ok x) f = f x
or_fault (Err k) f = Fault k

-- whether the keys are taken as sorted, which they are where nothing is said
abbrev pub is_sorted : List Arg → Result Bool ErrorKind
is_sorted [] = Ok true
is_sorted (a ∷ _) = logical_in (value_of a)

-- the field, from 0, at a place that is counted from 1
abbrev pub field_at : ℕ → ℤ → Result ℕ ErrorKind
field_at fields (pos zero) = Err kind.Value
field_at fields (pos (suc n)) = if nat_le (n + 1) fields then Ok n else Err kind.Ref
field_at fields (negsuc n) = Err kind.Value

-- what is looked for among keys that are taken as sorted, or aren't
abbrev pub kind_where : Bool → MatchKind
kind_where sorted = if sorted then Rising else Equal

-- a field of the record that was found
abbrev pub field_of : ℕ → Option ℕ → Pick
field_of field None = Fault kind.NotAvailable
field_of field (Some n) = Part n field n field

-- by a key, a place among so many fields and an order, the field of the record whose first field is found; the place is checked
-- before the key is looked for
abbrev pub record_pick : ℕ → List Value → List Arg → Pick
record_pick fields keys (key ∷ place ∷ rest) =
    or_fault (no_error (value_of key)) (λ k. or_fault (place_of place) (λ n. or_fault (is_sorted rest) (λ s.
    or_fault (field_at fields n) (λ field. field_of field (found (kind_where s) k keys)))))
record_pick fields keys _ = Fault kind.Value

-- what is picked of a table whose records are a grid's rows
abbrev pub lookup_of : Rectangle → List Arg → Calculation Arg
lookup_of g args = done (taken_from g (record_pick g.columns (column_of g 0) args))

abbrev pub vlookup_of : List Arg → Calculation Arg
vlookup_of (key ∷ table ∷ others) = lookup_of (grid_of table) (key ∷ others)
vlookup_of _ = answered (Error kind.Value)

-- the same with rows and columns exchanged
abbrev pub hlookup_of : List Arg → Calculation Arg
hlookup_of (key ∷ table ∷ others) = lookup_of (transposed (grid_of table)) (key ∷ others)
hlookup_of _ = answered (Error kind.Value)
