-- Reading a numeral from the left: each part takes from the front what it can.
use Rattle.std.specs.Prelude.{ℕ, Bool, true, false, ◌&&◌, ◌||◌, not, if◌then◌else◌, List, [], ◌∷◌, length, take, drop, take_while, nat_eq, nat_lt, Option, Some, None}
use Rattle.std.specs.Char.{is_ascii_digit}
use Rattle.std.specs.Str.Parse.{digits_value}
use Rattle.frac128.specs.Signed.{signed}
use Rattle.frac128.specs.Numeral.{Numeral}

-- how many digits stand in front
abbrev pub digits_len : List ℕ → ℕ
digits_len bytes = length (take_while is_ascii_digit bytes)

-- the digits in front, and what follows them
abbrev pub front_digits : List ℕ → List ℕ
front_digits bytes = take (digits_len bytes) bytes

abbrev pub past_digits : List ℕ → List ℕ
past_digits bytes = drop (digits_len bytes) bytes

-- whether a minus stands in front, and what follows the sign
abbrev pub front_minus : List ℕ → Bool
front_minus [] = false
front_minus (b ∷ bytes) = nat_eq b 45

abbrev pub past_sign : List ℕ → List ℕ
past_sign [] = []
past_sign (b ∷ bytes) = if nat_eq b 43 || nat_eq b 45 then bytes else (b ∷ bytes)

-- the digits behind a point in front, and what follows them
abbrev pub front_fraction : List ℕ → List ℕ
front_fraction [] = []
front_fraction (b ∷ bytes) = if nat_eq b 46 then front_digits bytes else []

abbrev pub past_fraction : List ℕ → List ℕ
past_fraction [] = []
past_fraction (b ∷ bytes) = if nat_eq b 46 then past_digits bytes else (b ∷ bytes)

-- whether an 'e' or 'E' stands in front, its sign and digits, and what follows them
abbrev pub front_mark : List ℕ → Bool
front_mark [] = false
front_mark (b ∷ bytes) = nat_eq b 101 || nat_eq b 69

abbrev pub exponent_minus : List ℕ → Bool
exponent_minus [] = false
exponent_minus (b ∷ bytes) = front_mark (b ∷ bytes) && front_minus bytes

abbrev pub exponent_digits : List ℕ → List ℕ
exponent_digits [] = []
exponent_digits (b ∷ bytes) = if front_mark (b ∷ bytes) then front_digits (past_sign bytes) else []

abbrev pub past_exponent : List ℕ → List ℕ
past_exponent [] = []
past_exponent (b ∷ bytes) = if front_mark (b ∷ bytes) then past_digits (past_sign bytes) else (b ∷ bytes)

-- an 'e' or 'E' has digits
abbrev pub whole_exponent : List ℕ → Bool
whole_exponent bytes = not (front_mark bytes) || nat_lt 0 (length (exponent_digits bytes))

-- what is left is nothing or one '%'
abbrev pub ends : List ℕ → Bool
ends [] = true
ends (b ∷ []) = nat_eq b 37
ends (b ∷ c ∷ bytes) = false

-- the numeral that a text spells, if it spells one
abbrev pub reading : List ℕ → Option Numeral
reading text =
    let a = past_sign text in
    let b = past_digits a in
    let c = past_fraction b in
    let d = past_exponent c in
    let n : Numeral = record {
      negative = front_minus text;
      before = front_digits a;
      behind = front_fraction b;
      exponent = signed (exponent_minus c) (digits_value 10 (exponent_digits c));
      percent = nat_lt 0 (length d);
    } in
    if (nat_lt 0 (length (front_digits a)) || nat_lt 0 (length (front_fraction b))) && whole_exponent c && ends d then Some n else None
