-- The zeros at both ends of digits, and the number without them.
use Rattle.std.proofs.Common.{◌≡◌, ◌≢◌, ℕ, suc, ◌+◌, ◌*◌, ◌^◌, ◌<◌, ◌≤◌, Bool, true, false, cond, eqb, List, [], ◌∷◌, ◌++◌, reverse, refl, sym, ap, subst, ◌∙◌, arith}
use Rattle.std.proofs.Math.Nat.{pow-suc}
use Rattle.std.proofs.lemmas.List.{reverse-reverse}
use Rattle.std.proofs.lemmas.Bool.{eqb-true, eq-eqb}
use Rattle.std.specs.Char.{digit_value, IsAsciiDigit}
use Rattle.std.specs.Str.Parse.{AllDigits, digits_value, digits_value_after}
use Rattle.frac128.specs.declared.significand.Trimmed.{Trimmed}
use Rattle.frac128.specs.Numeral.{without_front_zeros, significant}
use Rattle.frac128.specs.Trimmed.{nothing, with_digits}
use Rattle.frac128.proofs.TenPowers.{one_le_ten}
use Rattle.frac128.proofs.Digits.{append-digits, is_digit, reverse-digits, value-reverse, value_small}
use Rattle.frac128.proofs.Trims.{IsBare, bare-with_digits, bare_digit, bare_same, number_grows, value-with_digits, whole, whole-with_digits, with_digits-append}

front-value : (d : ℕ) (ds es : List ℕ) (b : Bool) → (b ≡ true → d ≡ 48) → digits_value 10 es ≡ digits_value 10 ds → digits_value 10 (cond b es (d ∷ ds)) ≡ digits_value 10 (d ∷ ds)
front-value d ds es true h e = e ∙ ap (λ v. digits_value_after 10 (0 * 10 + v) ds) (sym (ap digit_value (h refl)))
front-value d ds es false h e = refl

-- zeros in front change no value
value-front : (ds : List ℕ) → digits_value 10 (without_front_zeros ds) ≡ digits_value 10 ds
value-front [] = refl
value-front (d ∷ ds) = front-value d ds (without_front_zeros ds) (eqb d 48) (λ e. eqb-true d 48 e) (value-front ds)

front-chosen : (d : ℕ) (ds es : List ℕ) (b : Bool) → AllDigits 10 es → AllDigits 10 (d ∷ ds) → AllDigits 10 (cond b es (d ∷ ds))
front-chosen d ds es true h k = h
front-chosen d ds es false h k = k

front-digits : (ds : List ℕ) → AllDigits 10 ds → AllDigits 10 (without_front_zeros ds)
front-digits [] h = h
front-digits (d ∷ ds) h = front-chosen d ds (without_front_zeros ds) (eqb d 48) (front-digits ds h.1) h

-- digits from the last one on, with and without the zeros that come first
record IsCut (ds es : List ℕ) : Type 0 where
  zeros : ℕ
  value : digits_value 10 (reverse ds) ≡ digits_value 10 (reverse es) * 10 ^ zeros
  bare : IsBare (digits_value 10 (reverse es))

cut-chosen : (d : ℕ) (ds es : List ℕ) (b : Bool) → (b ≡ true → d ≡ 48) → (b ≡ false → d ≢ 48) → IsAsciiDigit d → IsCut ds es → IsCut (d ∷ ds) (cond b es (d ∷ ds))
cut-chosen d ds es true h g k c =
    let z : digit_value d ≡ 0 = ap digit_value (h refl) in
    record { zeros = suc c.zeros; value = value-reverse d ds ∙ shift _ _ (10 ^ c.zeros) _ (digit_value d) c.value (pow-suc 10 c.zeros) z; bare = c.bare }
  where
    shift : (m n p q v : ℕ) → m ≡ n * p → q ≡ p * 10 → v ≡ 0 → m * 10 + v ≡ n * q
    shift m n p q v e f z = omega (arith, e, ap (λ x. n * x) f, z)
cut-chosen d ds es false h g k c =
    let v = value_small d k (g refl) in
    record { zeros = 0; value = omega arith; bare = subst IsBare (sym (value-reverse d ds)) (bare_digit (digits_value 10 (reverse ds)) (digit_value d) v.0 v.1) }

cut : (ds : List ℕ) → AllDigits 10 ds → IsCut ds (without_front_zeros ds)
cut [] h = record { zeros = 0; value = refl; bare = λ e. refl }
cut (d ∷ ds) h = cut-chosen d ds (without_front_zeros ds) (eqb d 48) (λ e. eqb-true d 48 e) (λ e k. differ e (eq-eqb d 48 k)) (is_digit d h.0) (cut ds h.1)
  where
    differ : {b : Bool} → b ≡ false → b ≡ true → ⊥
    differ e f = cc

-- the number of the digits without the zeros at both ends
pub number-significant : (ds : List ℕ) → AllDigits 10 ds → (with_digits nothing ds).number ≡ digits_value 10 (significant ds)
number-significant ds h =
    let inner = without_front_zeros ds in
    let c = cut (reverse inner) (reverse-digits inner (front-digits ds h)) in
    let same : digits_value 10 (reverse (reverse inner)) ≡ digits_value 10 ds = ap (digits_value 10) (reverse-reverse inner) ∙ value-front ds in
    let t = with_digits nothing ds in
    bare_same t.number (digits_value 10 (significant ds)) t.zeros c.zeros (bare-with_digits nothing ds h (λ e. refl)) c.bare (whole-with_digits nothing ds ∙ sym same ∙ c.value)

pub significant_wide : (xs ys : List ℕ) → AllDigits 10 xs → AllDigits 10 ys → 2 ^ 127 ≤ (with_digits nothing xs).number → 2 ^ 127 ≤ digits_value 10 (significant (xs ++ ys))
significant_wide xs ys h k w =
    omega (arith, w, number_grows (with_digits nothing xs) ys, ap (λ t. t.number) (with_digits-append nothing xs ys), number-significant (xs ++ ys) (append-digits xs ys h k))

-- the significant number of the digits, and the zeros that make it their value
pub record IsTrimmed (ds : List ℕ) (t : Trimmed) : Type 0 where
  pub number : t.number ≡ digits_value 10 (significant ds)
  pub value : digits_value 10 ds ≡ t.number * 10 ^ t.zeros

pub trimmed_of : (xs ys : List ℕ) (t u : Trimmed) → AllDigits 10 xs → AllDigits 10 ys → t ≡ with_digits nothing xs → u ≡ with_digits t ys → IsTrimmed (xs ++ ys) u
trimmed_of xs ys t u h k e f =
    let all : u ≡ with_digits nothing (xs ++ ys) = f ∙ ap (λ v. with_digits v ys) e ∙ sym (with_digits-append nothing xs ys) in
    record {
      number = ap (λ v. v.number) all ∙ number-significant (xs ++ ys) (append-digits xs ys h k);
      value = value-with_digits (xs ++ ys) ∙ ap whole (sym all);
    }

pub trimmed_wide : (xs ys : List ℕ) (t : Trimmed) → AllDigits 10 xs → AllDigits 10 ys → t ≡ with_digits nothing xs → 2 ^ 127 ≤ (with_digits t ys).number → 2 ^ 127 ≤ digits_value 10 (significant (xs ++ ys))
trimmed_wide xs ys t h k e w =
    omega (arith, w, ap (λ v. (with_digits v ys).number) e, ap (λ v. v.number) (with_digits-append nothing xs ys), number-significant (xs ++ ys) (append-digits xs ys h k))

-- the digits without the zeros at both ends make no larger number
pub significant-le : (ds : List ℕ) → AllDigits 10 ds → digits_value 10 (significant ds) ≤ digits_value 10 ds
significant-le ds h = bounded (with_digits nothing ds).number (10 ^ (with_digits nothing ds).zeros) _ _ (number-significant ds h) (value-with_digits ds) (one_le_ten (with_digits nothing ds).zeros)
  where
    bounded : (n p s v : ℕ) → n ≡ s → v ≡ n * p → 1 ≤ p → s ≤ v
    bounded n p s v e f h = let k : n ≤ n * p = grow n p h in omega (arith, e, f, k)
      where
        grow : (n p : ℕ) → 1 ≤ p → n ≤ n * p
        grow n p h = grind arith

pub narrow-digits : (n m : ℕ) → n ≤ m → m < 2 ^ 127 → n < 2 ^ 127
narrow-digits n m h k = omega arith
