-- What a function takes of its arguments (OpenDocument 1.2 part 2, section 6.3). A reference and an array are areas, and what
-- a formula has in the place of another argument is a single value.
use Rattle.std.specs.Prelude.{ℕ, ◌+◌, ◌*◌, List, [], ◌∷◌, map, slice_index_or, Option, Some, None, Result, Ok, Err}
use Rattle.std.specs.List.{range_with_len}
use Rattle.calculations.specs.Calculation.{Calculation, done, turned_into}
use Rattle.fractions.specs.Rational.{ℚ}
use Rattle.cell_refs.specs.declared.error_kind.ErrorKind.{ErrorKind}
use Rattle.cell_refs.specs.declared.error_kind.ErrorKind.TheVariants as kind
use Rattle.sheet_model.specs.Grids.{Rectangle}
use Rattle.sheet_model.specs.declared.value.Value.{Value}
use Rattle.sheet_model.specs.declared.value.Value.TheVariants.{Number, Empty, Error}
use Rattle.sheet_model.specs.declared.grid.Arg.{Arg}
use Rattle.sheet_model.specs.declared.grid.Arg.TheVariants.{One, Area}

-- ---- one value
abbrev pub only_of : List Value → Value
only_of (v ∷ []) = v
only_of _ = Error kind.Value

-- the one of some values; the error stands for none and for many
abbrev pub one_of : List Value → Result Value ErrorKind
one_of (v ∷ []) = Ok v
one_of _ = Err kind.Value

-- where one value is wanted: the single value, or the one element of an area
abbrev pub value_of : Arg → Value
value_of (One v) = v
value_of (Area g) = only_of g.items

-- ---- a grid
-- where a grid is wanted, a single value is a grid of one element
abbrev pub grid_of : Arg → Rectangle
grid_of (One v) = record { rows = 1; columns = 1; items = v ∷ [] }
grid_of (Area g) = g

-- the elements of an argument, row by row
abbrev pub elements_of : Arg → List Value
elements_of a = (grid_of a).items

-- the element at a row and a column, each from 0
abbrev pub at : Rectangle → ℕ → ℕ → Value
at g row column = slice_index_or g.items (row * g.columns + column) Empty

-- the whole numbers from 0 below n
abbrev pub below : ℕ → List ℕ
below n = range_with_len 0 n

-- the elements of a row and of a column
abbrev pub row_of : Rectangle → ℕ → List Value
row_of g row = map (λ column. at g row column) (below g.columns)

abbrev pub column_of : Rectangle → ℕ → List Value
column_of g column = map (λ row. at g row column) (below g.rows)

-- ---- errors
-- the first error among some values
abbrev pub first_error : List Value → Option ErrorKind
first_error [] = None
first_error (Error k ∷ vs) = Some k
first_error (_ ∷ vs) = first_error vs

-- a value, or the error that it is
abbrev pub no_error : Value → Result Value ErrorKind
no_error (Error k) = Err k
no_error v = Ok v

-- all, or the first error
abbrev pub behind_first : {A : Type 0} → A → Result (List A) ErrorKind → Result (List A) ErrorKind
behind_first x (Ok xs) = Ok (x ∷ xs)
behind_first x (Err k) = Err k

abbrev pub all_or_error : {A : Type 0} → List (Result A ErrorKind) → Result (List A) ErrorKind
all_or_error [] = Ok []
all_or_error (Ok x ∷ rs) = behind_first x (all_or_error rs)
all_or_error (Err k ∷ rs) = Err k

-- ---- results
-- one value as the result
abbrev pub answered : Value → Calculation Arg
answered v = done (One v)

-- a number as the result
abbrev pub counted : Calculation ℚ → Calculation Arg
counted c = turned_into (λ x. One (Number x)) c

-- an error as the result, or what is made of what is there
abbrev pub on_ok : {A : Type 0} → Result A ErrorKind → (A → Calculation Arg) → Calculation Arg
on_ok (Ok x) f = f x
on_ok (Err k) f = answered (Error k)

-- an error as the result, or else what is calculated
abbrev pub unless : Option ErrorKind → Calculation Arg → Calculation Arg
unless (Some k) c = answered (Error k)
unless None c = c

-- ---- so many arguments; with others there is no such formula
abbrev pub of_one : (Arg → Calculation Arg) → List Arg → Calculation Arg
of_one f (a ∷ []) = f a
of_one f _ = answered (Error kind.Value)

abbrev pub of_two : (Arg → Arg → Calculation Arg) → List Arg → Calculation Arg
of_two f (a ∷ b ∷ []) = f a b
of_two f _ = answered (Error kind.Value)
