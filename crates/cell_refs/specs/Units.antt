-- Whole numbers that a text tells in digits, up to the greatest that is meant.
use Rattle.std.specs.Prelude.{ℕ, Bool, ◌&&◌, nat_le, nat_lt, if◌then◌else◌, List, length, Option, Some, None}
use Rattle.std.specs.Str.{all_ascii_digits}
use Rattle.std.specs.Str.Parse.{digits_value}
use Rattle.cell_refs.specs.declared.units.TheConstants.{MOST_UNITS}

-- digits, at least one
abbrev pub is_number : List ℕ → Bool
is_number digits = nat_lt 0 (length digits) && all_ascii_digits digits

abbrev pub within : ℕ → ℕ → Option ℕ
within most n = if nat_le 1 n && nat_le n most then Some n else None

-- a whole number in digits, from 1 on and no more than the most
abbrev pub number_up_to : ℕ → List ℕ → Option ℕ
number_up_to most text = if is_number text then within most (digits_value 10 text) else None

-- how many units may be spent
abbrev pub units_in : List ℕ → Option ℕ
units_in text = number_up_to MOST_UNITS text
