-- Errors of CHOOSE and INDEX that are certain though a place is open, by example. What is expected was worked out by hand.
use Rattle.std.specs.Prelude.{Bool, true, false, List, [], ◌∷◌, pos, Option, Some, None, Ok}
use Rattle.std.specs.List.{list_all}
use Rattle.fractions.specs.Rational.{zero_ℚ, one_ℚ}
use Rattle.fractions.specs.Whole.{whole_ℚ}
use Rattle.cell_refs.specs.declared.error_kind.ErrorKind.{ErrorKind}
use Rattle.cell_refs.specs.declared.error_kind.ErrorKind.TheVariants as kind
use Rattle.form_values.specs.FromSheetModel.{Error}
use Rattle.form_values.specs.Trials.{given}
use Rattle.form_values.specs.declared.abs.Abs.{Abs}
use Rattle.form_values.specs.declared.abs.Abs.TheVariants.{Known}
use Rattle.form_table.specs.Certain.{is_no_choice, index_error}
use Rattle.form_table.specs.Examples.{Example, x, y, t, one_is, y_is, number, fails, column, fault_is}

-- ---- CHOOSE: whether each choice is the error that stands where there is none
abbrev pub no_choices : List (Example Bool)
no_choices =
    -- CHOOSE(x;#VALUE!)
    (given (list_all is_no_choice (fails kind.Value ∷ [])), Some (Ok true)) ∷
    -- CHOOSE(x;#VALUE!;{#VALUE!})
    (given (list_all is_no_choice (fails kind.Value ∷ column (fault_is ∷ []) ∷ [])), Some (Ok true)) ∷
    -- CHOOSE(x;#N/A)
    (given (list_all is_no_choice (fails kind.NotAvailable ∷ [])), Some (Ok false)) ∷
    -- CHOOSE(x;#VALUE!;1)
    (given (list_all is_no_choice (fails kind.Value ∷ number one_ℚ ∷ [])), Some (Ok false)) ∷
    -- CHOOSE(x;y;#VALUE!)
    (given (list_all is_no_choice (y ∷ fails kind.Value ∷ [])), Some (Ok false)) ∷
    -- CHOOSE(x;{#VALUE!;#VALUE!})
    (given (list_all is_no_choice (column (fault_is ∷ fault_is ∷ []) ∷ [])), Some (Ok false)) ∷
    []

-- ---- INDEX: the error that is certainly picked, by the number of rows and columns, the elements and the places
abbrev pub ref_is : Abs
ref_is = Known (Error kind.Ref)

abbrev pub index_errors : List (Example (Option ErrorKind))
index_errors =
    -- INDEX(#REF!;x)
    (given (index_error 1 1 (ref_is ∷ []) (x ∷ [])), Some (Ok (Some kind.Ref))) ∷
    -- INDEX(#REF!;t;x)
    (given (index_error 1 1 (ref_is ∷ []) (t ∷ x ∷ [])), Some (Ok (Some kind.Ref))) ∷
    -- INDEX(#REF!;x;#N/A)
    (given (index_error 1 1 (ref_is ∷ []) (x ∷ fails kind.NotAvailable ∷ [])), Some (Ok None)) ∷
    -- INDEX(#N/A;x)
    (given (index_error 1 1 (Known (Error kind.NotAvailable) ∷ []) (x ∷ [])), Some (Ok None)) ∷
    -- INDEX(y;x)
    (given (index_error 1 1 (y_is ∷ []) (x ∷ [])), Some (Ok None)) ∷
    -- INDEX({#REF!|#REF!};x)
    (given (index_error 2 1 (ref_is ∷ ref_is ∷ []) (x ∷ [])), Some (Ok None)) ∷
    -- INDEX({#REF!;#REF!};x)
    (given (index_error 1 2 (ref_is ∷ ref_is ∷ []) (x ∷ [])), Some (Ok None)) ∷
    -- INDEX({1|#REF!};2;x)
    (given (index_error 2 1 (one_is ∷ ref_is ∷ []) (number (whole_ℚ (pos 2)) ∷ x ∷ [])), Some (Ok (Some kind.Ref))) ∷
    -- INDEX({1|#REF!};1;x)
    (given (index_error 2 1 (one_is ∷ ref_is ∷ []) (number one_ℚ ∷ x ∷ [])), Some (Ok None)) ∷
    -- INDEX({#REF!|#REF!};0;x)
    (given (index_error 2 1 (ref_is ∷ ref_is ∷ []) (number zero_ℚ ∷ x ∷ [])), Some (Ok None)) ∷
    -- INDEX({1;y;#REF!};t;3)
    (given (index_error 1 3 (one_is ∷ y_is ∷ ref_is ∷ []) (t ∷ number (whole_ℚ (pos 3)) ∷ [])), Some (Ok (Some kind.Ref))) ∷
    -- INDEX({1;y;#REF!};t;2)
    (given (index_error 1 3 (one_is ∷ y_is ∷ ref_is ∷ []) (t ∷ number (whole_ℚ (pos 2)) ∷ [])), Some (Ok None)) ∷
    -- INDEX({#REF!;#REF!|#REF!;#REF!};x;y)
    (given (index_error 2 2 (ref_is ∷ ref_is ∷ ref_is ∷ ref_is ∷ []) (x ∷ y ∷ [])), Some (Ok None)) ∷
    []
