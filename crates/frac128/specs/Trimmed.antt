-- A whole number apart from the zeros at its end, digit by digit.
use Rattle.std.specs.Prelude.{ℕ, suc, ◌+◌, ◌*◌, ◌^◌, if◌then◌else◌, List, [], ◌∷◌, nat_eq}
use Rattle.std.specs.Char.{digit_value}
use Rattle.frac128.specs.declared.significand.Trimmed.{Trimmed}

-- no digit yet
abbrev pub nothing : Trimmed
nothing = record { number = 0; zeros = 0 }

-- with one more digit behind it; zeros behind 0 do not count
abbrev pub with_digit : Trimmed → ℕ → Trimmed
with_digit t d =
    if nat_eq d 48 then record { number = t.number; zeros = if nat_eq t.number 0 then 0 else suc t.zeros }
    else record { number = t.number * 10 ^ (suc t.zeros) + digit_value d; zeros = 0 }

-- with more digits behind it
abbrev pub with_digits : Trimmed → List ℕ → Trimmed
with_digits t [] = t
with_digits t (d ∷ ds) = with_digits (with_digit t d) ds
