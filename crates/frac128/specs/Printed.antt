-- How a fraction is printed: as a whole number, as a short decimal, or as numerator and denominator.
use Rattle.std.specs.Prelude.{◌≡◌, ◌≢◌, ◌<◌, ◌⊎◌, MatchOption, ℕ, zero, suc, ◌-◌, ◌*◌, ◌/◌, ◌%◌, ◌^◌, if◌then◌else◌, List, [], ◌∷◌, ◌++◌, length, take, drop, replicate, Option, Some, None, IsSome, nat_lt, ◌==◌, ℤ, pos, negsuc, unsigned_abs}
use Rattle.std.specs.Fmt.{decimal}
use Rattle.fractions.specs.Rational.{ℚ, numerator, denominator}
use Rattle.frac128.specs.declared.write.Decimal.{Decimal}
use Rattle.frac128.specs.Numeral.{Numeral, Spells, IsNarrowNumeral, value}
use Rattle.frac128.specs.Narrow.{IsNarrow}

-- the least of some numbers of places, from k on, such that d divides 10 to it
unfoldable pub least_places : ℕ → ℕ → ℕ → Option ℕ
least_places zero k d = None
least_places (suc n) k d = if (10 ^ k) % d == 0 then Some k else least_places n (suc k) d

-- the places found among 0 to 18 are the least such that d divides 10 to them, and none are found where none are so
abbrev pub PlacesAreLeast : Type 0
PlacesAreLeast = (d : ℕ) → MatchOption (least_places 19 0 d) ((j : ℕ) → j < 19 → (10 ^ j) % d ≢ 0)
    (λ k. (k < 19) × ((10 ^ k) % d ≡ 0) × ((j : ℕ) → j < k → (10 ^ j) % d ≢ 0))

-- n / d with so many places, where its digits make a narrow whole number
abbrev pub decimal_with : ℕ → ℕ → Option ℕ → Option Decimal
decimal_with n d None = None
decimal_with n d (Some k) =
    let m = n * (10 ^ k / d) in
    if nat_lt m (2 ^ 127) then Some (record { digits = m; places = k }) else None

-- the shortest decimal of n / d, where d divides 10 ^ 18 and the digits make a narrow whole number
abbrev pub short_decimal : ℕ → ℕ → Option Decimal
short_decimal n d = decimal_with n d (least_places 19 0 d)

-- digits with a point before the last k, with zeros in front so that one stands before the point
abbrev pub with_point : List ℕ → ℕ → List ℕ
with_point ds k =
    let padded = replicate (suc k - length ds) 48 ++ ds in
    take (length padded - k) padded ++ (46 ∷ drop (length padded - k) padded)

-- a decimal, or numerator, '/' and denominator where there is none
abbrev pub fraction_text : ℕ → ℕ → Option Decimal → List ℕ
fraction_text n d None = decimal n ++ (47 ∷ decimal d)
fraction_text n d (Some x) = with_point (decimal x.digits) x.places

-- n / d without sign
abbrev pub size_text : ℕ → ℕ → List ℕ
size_text n d = if d == 1 then decimal n else fraction_text n d (short_decimal n d)

-- a minus where it is negative
abbrev pub minus_text : ℤ → List ℕ
minus_text (pos n) = []
minus_text (negsuc n) = 45 ∷ []

-- how a fraction is printed
abbrev pub printed : ℚ → List ℕ
printed x = minus_text (numerator x) ++ size_text (unsigned_abs (numerator x)) (denominator x)

-- it is printed without '/': it is whole, or has a short decimal
abbrev pub IsPrintedAsNumeral : ℚ → Type 0
IsPrintedAsNumeral x = (denominator x ≡ 1) ⊎ IsSome (short_decimal (unsigned_abs (numerator x)) (denominator x))

-- what is printed without '/' is a narrow numeral of the same value
abbrev pub PrintedReadsBack : Type 0
PrintedReadsBack = (x : ℚ) → IsNarrow x → IsPrintedAsNumeral x → (n : Numeral) × (Spells (printed x) n × IsNarrowNumeral n × (value n ≡ x))
