-- The numbers and the logicals of a list of arguments (OpenDocument 1.2 part 2, sections 6.3.7, 6.3.8 and 6.3.13): an area gives
-- those of its elements that are some, and its errors; a single value is converted.
use Rattle.std.specs.Prelude.{Bool, not, List, [], ◌∷◌, flat_map, Option, Some, None, Result, Ok, Err}
use Rattle.std.specs.List.{filter_map}
use Rattle.fractions.specs.Rational.{ℚ}
use Rattle.cell_refs.specs.declared.error_kind.ErrorKind.{ErrorKind}
use Rattle.sheet_model.specs.Tests.{is_zero}
use Rattle.sheet_model.specs.Conversions.{number_in, logical_in}
use Rattle.sheet_model.specs.declared.value.Value.{Value}
use Rattle.sheet_model.specs.declared.value.Value.TheVariants.{Number, Logical, Error}
use Rattle.sheet_model.specs.declared.grid.Arg.{Arg}
use Rattle.sheet_model.specs.declared.grid.Arg.TheVariants.{One, Area}
use Rattle.sheet_funcs.specs.Arguments.{all_or_error}

-- the number or the error that an element of an area is; other elements are skipped
abbrev pub number_at : Value → Option (Result ℚ ErrorKind)
number_at (Number x) = Some (Ok x)
number_at (Error k) = Some (Err k)
number_at _ = None

abbrev pub items_in : Arg → List (Result ℚ ErrorKind)
items_in (One v) = number_in v ∷ []
items_in (Area g) = filter_map number_at g.items

-- the numbers of some arguments, or the first error among them
abbrev pub numbers_of : List Arg → Result (List ℚ) ErrorKind
numbers_of args = all_or_error (flat_map items_in args)

-- the numbers of some elements, or the first error among them
abbrev pub numbers_among : List Value → Result (List ℚ) ErrorKind
numbers_among vs = all_or_error (filter_map number_at vs)

-- the logical or the error that an element of an area is, a number other than 0 being TRUE; other elements are skipped
abbrev pub logical_at : Value → Option (Result Bool ErrorKind)
logical_at (Number x) = Some (Ok (not (is_zero x)))
logical_at (Logical b) = Some (Ok b)
logical_at (Error k) = Some (Err k)
logical_at _ = None

abbrev pub logicals_in : Arg → List (Result Bool ErrorKind)
logicals_in (One v) = logical_in v ∷ []
logicals_in (Area g) = filter_map logical_at g.items

-- the logicals of some arguments, or the first error among them
abbrev pub logicals_of : List Arg → Result (List Bool) ErrorKind
logicals_of args = all_or_error (flat_map logicals_in args)
