-- How a value counts where a number, a logical or a text is wanted (OpenDocument 1.2 part 2, section 6.3; a text is no number
-- and no logical, also where it could be read as one).
use Rattle.std.specs.Prelude.{ℕ, Bool, false, not, if◌then◌else◌, List, [], codes, Result, Ok, Err}
use Rattle.fractions.specs.Rational.{ℚ, zero_ℚ, one_ℚ}
use Rattle.frac128.specs.Printed.{printed}
use Rattle.cell_refs.specs.declared.error_kind.ErrorKind.{ErrorKind}
use Rattle.cell_refs.specs.declared.error_kind.ErrorKind.TheVariants as kind
use Rattle.sheet_model.specs.Tests.{is_zero}
use Rattle.sheet_model.specs.declared.value.Value.{Value}
use Rattle.sheet_model.specs.declared.value.Value.TheVariants.{Number, Text, Logical, Empty, Error}

-- as a number
abbrev pub number_in : Value → Result ℚ ErrorKind
number_in (Number x) = Ok x
number_in (Text t) = Err kind.Value
number_in (Logical b) = Ok (if b then one_ℚ else zero_ℚ)
number_in Empty = Ok zero_ℚ
number_in (Error k) = Err k

-- as a logical
abbrev pub logical_in : Value → Result Bool ErrorKind
logical_in (Number x) = Ok (not (is_zero x))
logical_in (Text t) = Err kind.Value
logical_in (Logical b) = Ok b
logical_in Empty = Ok false
logical_in (Error k) = Err k

-- as a text
abbrev pub text_in : Value → Result (List ℕ) ErrorKind
text_in (Number x) = Ok (printed x)
text_in (Text t) = Ok t
text_in (Logical b) = Ok (if b then codes "TRUE" else codes "FALSE")
text_in Empty = Ok []
text_in (Error k) = Err k
