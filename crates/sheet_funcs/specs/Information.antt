-- N, ISNUMBER, ISBLANK, ROWS and COLUMNS (OpenDocument 1.2 part 2, sections 6.13.26, 6.13.22, 6.13.11, 6.13.30 and 6.13.5).
use Rattle.std.specs.Prelude.{true, pos}
use Rattle.fractions.specs.Rational.{zero_ℚ, one_ℚ}
use Rattle.fractions.specs.Whole.{whole_ℚ}
use Rattle.calculations.specs.Calculation.{Calculation}
use Rattle.sheet_model.specs.declared.value.Value.{Value}
use Rattle.sheet_model.specs.declared.value.Value.TheVariants.{Number, Logical, Error}
use Rattle.sheet_model.specs.declared.grid.Arg.{Arg}
use Rattle.sheet_funcs.specs.Arguments.{value_of, grid_of, answered}
use Rattle.sheet_funcs.specs.Sums.{is_number}
use Rattle.sheet_funcs.specs.Criteria.{is_empty}

-- a number is itself, TRUE is 1, and another value is 0; an error stays itself
abbrev pub number_or_zero : Value → Value
number_or_zero (Number x) = Number x
number_or_zero (Logical true) = Number one_ℚ
number_or_zero (Error k) = Error k
number_or_zero _ = Number zero_ℚ

abbrev pub n_of : Arg → Calculation Arg
n_of a = answered (number_or_zero (value_of a))

-- no error is a result here
abbrev pub isnumber_of : Arg → Calculation Arg
isnumber_of a = answered (Logical (is_number (value_of a)))

abbrev pub isblank_of : Arg → Calculation Arg
isblank_of a = answered (Logical (is_empty (value_of a)))

-- the size alone, whatever the elements are
abbrev pub rows_of : Arg → Calculation Arg
rows_of a = answered (Number (whole_ℚ (pos (grid_of a).rows)))

abbrev pub columns_of : Arg → Calculation Arg
columns_of a = answered (Number (whole_ℚ (pos (grid_of a).columns)))
