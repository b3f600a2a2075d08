-- ABS, INT, MOD, ROUND and POWER (OpenDocument 1.2 part 2, sections 6.16.2, 6.17.2, 6.16.42, 6.17.5 and 6.16.46). A place is a
-- number rounded down.
use Rattle.std.specs.Prelude.{Bool, ◌&&◌, if◌then◌else◌, List, [], ◌∷◌, ℤ, pos, negsuc, int_le, Result}
use Rattle.std.specs.Result.{result_map_both}
use Rattle.fractions.specs.Rational.{ℚ, neg_ℚ, one_ℚ, ◌/ℚ◌}
use Rattle.fractions.specs.Whole.{whole_ℚ}
use Rattle.fractions.specs.Floor.{floor_ℚ}
use Rattle.calculations.specs.Calculation.{Calculation, sum, product, quotient, power, done, after, turned_into}
use Rattle.cell_refs.specs.declared.error_kind.ErrorKind.{ErrorKind}
use Rattle.cell_refs.specs.declared.error_kind.ErrorKind.TheVariants as kind
use Rattle.sheet_model.specs.Tests.{is_zero, is_negative}
use Rattle.sheet_model.specs.Conversions.{number_in}
use Rattle.sheet_model.specs.Operators.{raised}
use Rattle.sheet_model.specs.declared.value.Value.TheVariants.{Number, Error}
use Rattle.sheet_model.specs.declared.grid.Arg.{Arg}
use Rattle.sheet_model.specs.declared.grid.Arg.TheVariants.{One}
use Rattle.sheet_funcs.specs.Arguments.{value_of, answered, counted, on_ok}

-- an argument as a number, and as a place
abbrev pub number_of : Arg → Result ℚ ErrorKind
number_of a = number_in (value_of a)

abbrev pub place_of : Arg → Result ℤ ErrorKind
place_of a = result_map_both floor_ℚ (λ k. k) (number_of a)

-- a number rounded down
abbrev pub rounded : ℚ → ℚ
rounded x = whole_ℚ (floor_ℚ x)

-- a number without its sign
abbrev pub magnitude : ℚ → ℚ
magnitude x = if is_negative x then neg_ℚ x else x

abbrev pub abs_of : Arg → Calculation Arg
abs_of a = on_ok (number_of a) (λ x. answered (Number (magnitude x)))

abbrev pub int_of : Arg → Calculation Arg
int_of a = on_ok (number_of a) (λ x. answered (Number (rounded x)))

-- x - y*INT(x/y)
abbrev pub remainder : ℚ → ℚ → Calculation Arg
remainder x y =
    if is_zero y then answered (Error kind.Div0)
    else counted (after (quotient x y) (λ q. after (product y (rounded q)) (λ p. after (sum x (neg_ℚ p)) done)))

abbrev pub mod_of : Arg → Arg → Calculation Arg
mod_of a b = on_ok (number_of a) (λ x. on_ok (number_of b) (remainder x))

abbrev pub half : ℚ
half = one_ℚ /ℚ whole_ℚ (pos 2)

-- INT(m*10^n + 1/2) / 10^n
abbrev pub rounded_half_up : ℚ → ℤ → Calculation ℚ
rounded_half_up m n =
    after (power (whole_ℚ (pos 10)) n) (λ t. after (product m t) (λ p. after (sum p half) (λ s. after (quotient (rounded s) t) done)))

-- whether a number of places is from -1000 to 1000
abbrev pub is_place : ℤ → Bool
is_place n = int_le (negsuc 999) n && int_le n (pos 1000)

-- half away from zero: the sign of x times its magnitude rounded
abbrev pub rounded_at : ℚ → ℤ → Calculation Arg
rounded_at x n =
    if is_place n
    then counted (turned_into (λ r. if is_negative x then neg_ℚ r else r) (rounded_half_up (magnitude x) n))
    else answered (Error kind.Num)

-- at so many places, 0 where none are given
abbrev pub round_of : List Arg → Calculation Arg
round_of (a ∷ []) = on_ok (number_of a) (λ x. rounded_at x (pos 0))
round_of (a ∷ b ∷ []) = on_ok (number_of a) (λ x. on_ok (place_of b) (rounded_at x))
round_of _ = answered (Error kind.Value)

abbrev pub power_of : Arg → Arg → Calculation Arg
power_of a b = on_ok (number_of a) (λ x. on_ok (number_of b) (λ y. turned_into One (raised x y)))
