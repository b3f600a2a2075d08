-- Numerals: how a text spells one, its value, and which are narrow. A text is a list of bytes.
use Rattle.std.specs.Prelude.{◌≡◌, ◌⊎◌, ◌↔◌, ℕ, ◌<◌, ◌^◌, Bool, true, false, ◌&&◌, if◌then◌else◌, nat_lt, List, [], ◌∷◌, ◌++◌, length, reverse, ◌==◌, ℤ, pos, ◌-ℤ◌}
use Rattle.std.specs.Str.Parse.{AllDigits, IsNumeral, digits_value}
use Rattle.fractions.specs.Power.{power_ℚ}
use Rattle.fractions.specs.Rational.{ℚ, ◌*ℚ◌}
use Rattle.fractions.specs.Whole.{whole_ℚ}
use Rattle.frac128.specs.Signed.{signed}
use Rattle.frac128.specs.Narrow.{IsNarrow, is_narrow}

-- the parts of a numeral, its digits as bytes
pub record Numeral : Type 0 where
  pub negative : Bool
  pub before : List ℕ
  pub behind : List ℕ
  pub exponent : ℤ
  pub percent : Bool

-- no sign, '+' or '-'; the flag says that it is a minus
pub data SpellsSign : List ℕ → Bool → Type 0 where
  unsigned : SpellsSign [] false
  plus : SpellsSign (43 ∷ []) false
  minus : SpellsSign (45 ∷ []) true

-- the digits before the point and those behind it: digits alone; digits, '.', any digits; '.', digits
pub data SpellsMantissa : List ℕ → List ℕ → List ℕ → Type 0 where
  digits : (ds : List ℕ) → IsNumeral 10 ds → SpellsMantissa ds ds []
  pointed : (ds es : List ℕ) → IsNumeral 10 ds → AllDigits 10 es → SpellsMantissa (ds ++ (46 ∷ es)) ds es
  point_first : (es : List ℕ) → IsNumeral 10 es → SpellsMantissa (46 ∷ es) [] es

-- nothing, which stands for 0; or 'e' or 'E' and a whole number with or without sign
pub data SpellsExponent : List ℕ → ℤ → Type 0 where
  absent : SpellsExponent [] (pos 0)
  present : (mark : ℕ) (sign ds : List ℕ) (negative : Bool) → (mark ≡ 101) ⊎ (mark ≡ 69) → SpellsSign sign negative → IsNumeral 10 ds
      → SpellsExponent (mark ∷ (sign ++ ds)) (signed negative (digits_value 10 ds))

-- nothing or '%'
pub data SpellsPercent : List ℕ → Bool → Type 0 where
  plain : SpellsPercent [] false
  percent : SpellsPercent (37 ∷ []) true

-- the text is the numeral's parts, one behind the other
pub record Spells (text : List ℕ) (n : Numeral) : Type 0 where
  pub sign : List ℕ
  pub mantissa : List ℕ
  pub exponent : List ℕ
  pub percent : List ℕ
  pub joined : text ≡ sign ++ (mantissa ++ (exponent ++ percent))
  pub sign_is : SpellsSign sign n.negative
  pub mantissa_is : SpellsMantissa mantissa n.before n.behind
  pub exponent_is : SpellsExponent exponent n.exponent
  pub percent_is : SpellsPercent percent n.percent

-- n, or -n where the flag is set, times 10 to the exponent
abbrev pub scaled : Bool → ℕ → ℤ → ℚ
scaled negative n exponent = whole_ℚ (signed negative n) *ℚ power_ℚ (whole_ℚ (pos 10)) exponent

-- the digits on both sides of the point
abbrev pub all_digits : Numeral → List ℕ
all_digits n = n.before ++ n.behind

-- how far the point stands to the right of the last digit: the exponent, less the digits behind the point, less 2 for '%'
abbrev pub places : Numeral → ℤ
places n = (n.exponent -ℤ pos (length n.behind)) -ℤ pos (if n.percent then 2 else 0)

-- the value, of any size
abbrev pub value : Numeral → ℚ
value n = scaled n.negative (digits_value 10 (all_digits n)) (places n)

-- digits without the zeros in front
abbrev pub without_front_zeros : List ℕ → List ℕ
without_front_zeros [] = []
without_front_zeros (d ∷ ds) = if d == 48 then without_front_zeros ds else (d ∷ ds)

-- digits without the zeros at both ends
abbrev pub significant : List ℕ → List ℕ
significant ds = reverse (without_front_zeros (reverse (without_front_zeros ds)))

-- the value is narrow, and so is the whole number of the digits without the zeros at both ends
pub record IsNarrowNumeral (n : Numeral) : Type 0 where
  pub value : IsNarrow (value n)
  pub digits : digits_value 10 (significant (all_digits n)) < 2 ^ 127

-- the test of IsNarrowNumeral
abbrev pub is_narrow_numeral : Numeral → Bool
is_narrow_numeral n = is_narrow (value n) && nat_lt (digits_value 10 (significant (all_digits n))) (2 ^ 127)

-- it holds exactly where the fact does
abbrev pub NumeralTest : Type 0
NumeralTest = (n : Numeral) → (is_narrow_numeral n ≡ true) ↔ IsNarrowNumeral n

-- no text spells two numerals
abbrev pub SpellsOne : Type 0
SpellsOne = (text : List ℕ) (n m : Numeral) → Spells text n → Spells text m → n ≡ m
