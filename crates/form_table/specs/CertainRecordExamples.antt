-- Errors of VLOOKUP that are certain though something is open, by example. What is expected was worked out by hand.
use Rattle.std.specs.Prelude.{pos, false, List, [], ◌∷◌, map, flat_map, Option, Some, None, Ok}
use Rattle.fractions.specs.Rational.{one_ℚ}
use Rattle.fractions.specs.Whole.{whole_ℚ}
use Rattle.cell_refs.specs.declared.error_kind.ErrorKind.{ErrorKind}
use Rattle.cell_refs.specs.declared.error_kind.ErrorKind.TheVariants as kind
use Rattle.form_values.specs.FromSheetModel.{Number, Empty, Error}
use Rattle.form_values.specs.Trials.{Trial, given}
use Rattle.form_values.specs.declared.abs.Abs.{Abs}
use Rattle.form_values.specs.declared.abs.Abs.TheVariants.{Known}
use Rattle.form_values.specs.declared.abs.AbsArg.{AbsArg}
use Rattle.form_table.specs.Wanted.{value_of, number_of}
use Rattle.form_table.specs.Lookups.{kinds_in}
use Rattle.form_table.specs.CertainRecords.{record_error}
use Rattle.form_table.specs.Examples.{Example, x, y, t, x_is, y_is, one_is, two_is, letter_is, letter, number, logical, fails}

-- a table of two columns by its rows
abbrev pub vlookup_error : AbsArg → List (Abs × Abs) → AbsArg → List AbsArg → Trial (Option ErrorKind)
vlookup_error key rows column rest =
    given (record_error 2 (flat_map (λ row. Some row.0 ∷ Some row.1 ∷ []) rows) (map (λ row. row.0) rows) (value_of key) (number_of column) (kinds_in rest))

abbrev pub missing : Abs
missing = Known (Error kind.NotAvailable)

abbrev pub ref_is : Abs
ref_is = Known (Error kind.Ref)

abbrev pub three_is : Abs
three_is = Known (Number (whole_ℚ (pos 3)))

abbrev pub one : AbsArg
one = number one_ℚ

abbrev pub two : AbsArg
two = number (whole_ℚ (pos 2))

abbrev pub three : AbsArg
three = number (whole_ℚ (pos 3))

abbrev pub record_errors : List (Example (Option ErrorKind))
record_errors =
    -- VLOOKUP(1;{1;#REF!};2;t)
    (vlookup_error one ((one_is, ref_is) ∷ []) two (t ∷ []), Some (Ok (Some kind.Ref))) ∷
    -- VLOOKUP(2;{1;#REF!};2;t)
    (vlookup_error two ((one_is, ref_is) ∷ []) two (t ∷ []), Some (Ok None)) ∷
    -- VLOOKUP(2;{1;#N/A};2;y)
    (vlookup_error two ((one_is, missing) ∷ []) two (y ∷ []), Some (Ok (Some kind.NotAvailable))) ∷
    -- VLOOKUP(x;{1;#N/A|2;#N/A};2)
    (vlookup_error x ((one_is, missing) ∷ (two_is, missing) ∷ []) two [], Some (Ok (Some kind.NotAvailable))) ∷
    -- VLOOKUP(x;{1;#N/A|2;#N/A};2;t)
    (vlookup_error x ((one_is, missing) ∷ (two_is, missing) ∷ []) two (t ∷ []), Some (Ok (Some kind.NotAvailable))) ∷
    -- VLOOKUP(x;{1;#N/A|2;#REF!};2)
    (vlookup_error x ((one_is, missing) ∷ (two_is, ref_is) ∷ []) two [], Some (Ok None)) ∷
    -- VLOOKUP(x;{1;#REF!};2;FALSE)
    (vlookup_error x ((one_is, ref_is) ∷ []) two (logical false ∷ []), Some (Ok None)) ∷
    -- VLOOKUP(x;{"";1|#REF!;1|2;#N/A};2;FALSE), where the first key is empty
    (vlookup_error x ((Known Empty, one_is) ∷ (ref_is, one_is) ∷ (two_is, missing) ∷ []) two (logical false ∷ []), Some (Ok (Some kind.NotAvailable))) ∷
    -- VLOOKUP(x;{1;y};2)
    (vlookup_error x ((one_is, y_is) ∷ []) two [], Some (Ok None)) ∷
    -- VLOOKUP(1;{x;#REF!|1;#REF!|2;5};2;FALSE)
    (vlookup_error one ((x_is, ref_is) ∷ (one_is, ref_is) ∷ (two_is, one_is) ∷ []) two (logical false ∷ []), Some (Ok (Some kind.Ref))) ∷
    -- VLOOKUP(1;{x;#REF!|2;#REF!};2;FALSE)
    (vlookup_error one ((x_is, ref_is) ∷ (two_is, ref_is) ∷ []) two (logical false ∷ []), Some (Ok None)) ∷
    -- VLOOKUP(1;{x;1|1;#REF!};2;FALSE)
    (vlookup_error one ((x_is, one_is) ∷ (one_is, ref_is) ∷ []) two (logical false ∷ []), Some (Ok None)) ∷
    -- VLOOKUP(2;{1;#REF!|x;#REF!|3;1};2)
    (vlookup_error two ((one_is, ref_is) ∷ (x_is, ref_is) ∷ (three_is, one_is) ∷ []) two [], Some (Ok (Some kind.Ref))) ∷
    -- VLOOKUP(3;{1;#REF!|x;#REF!|3;1};2)
    (vlookup_error three ((one_is, ref_is) ∷ (x_is, ref_is) ∷ (three_is, one_is) ∷ []) two [], Some (Ok None)) ∷
    -- VLOOKUP(3;{1;#REF!|x;1|3;#REF!};2)
    (vlookup_error three ((one_is, ref_is) ∷ (x_is, one_is) ∷ (three_is, ref_is) ∷ []) two [], Some (Ok (Some kind.Ref))) ∷
    -- VLOOKUP(2;{x;#REF!};2)
    (vlookup_error two ((x_is, ref_is) ∷ []) two [], Some (Ok None)) ∷
    -- VLOOKUP(2;{x;#N/A};2;t)
    (vlookup_error two ((x_is, missing) ∷ []) two (t ∷ []), Some (Ok (Some kind.NotAvailable))) ∷
    -- VLOOKUP("a";{"a";#REF!};2;t)
    (vlookup_error letter ((letter_is, ref_is) ∷ []) two (t ∷ []), Some (Ok (Some kind.Ref))) ∷
    -- VLOOKUP(1;{1;#N/A};x)
    (vlookup_error one ((one_is, missing) ∷ []) x [], Some (Ok None)) ∷
    -- VLOOKUP(x;{1;#N/A};1)
    (vlookup_error x ((one_is, missing) ∷ []) one [], Some (Ok None)) ∷
    -- VLOOKUP(x;{1;#N/A};3)
    (vlookup_error x ((one_is, missing) ∷ []) three [], Some (Ok None)) ∷
    -- VLOOKUP(#REF!;{1;#N/A};2;t)
    (vlookup_error (fails kind.Ref) ((one_is, missing) ∷ []) two (t ∷ []), Some (Ok None)) ∷
    -- VLOOKUP(x;{1;#N/A};2;"a")
    (vlookup_error x ((one_is, missing) ∷ []) two (letter ∷ []), Some (Ok None)) ∷
    []
