-- A number and the zeros behind it, digit by digit.
use Rattle.std.proofs.Common.{◌≡◌, ◌≢◌, ℕ, zero, suc, ◌+◌, ◌*◌, ◌%◌, ◌^◌, ◌<◌, ◌≤◌, Bool, true, false, cond, eqb, List, [], ◌∷◌, ◌++◌, length, drop, get_or, refl, sym, ap, subst, ◌∙◌, arith, drop-cons, add-one}
use Rattle.std.proofs.Math.Nat.{pow-suc}
use Rattle.std.proofs.lemmas.Bool.{eqb-true, eq-eqb}
use Rattle.std.specs.Char.{digit_value, IsAsciiDigit}
use Rattle.std.specs.Str.Parse.{AllDigits, digits_value, digits_value_after}
use Rattle.frac128.specs.declared.significand.Trimmed.{Trimmed}
use Rattle.frac128.specs.Trimmed.{nothing, with_digit, with_digits}
use Rattle.frac128.proofs.TenPowers.{one_le_ten}
use Rattle.frac128.proofs.Digits.{is_digit, value_small}

grows : (t : Trimmed) (d : ℕ) → t.number ≤ (with_digit t d).number
grows t d = by_test (eqb d 48)
  where
    product : (n p v : ℕ) → 1 ≤ p → n ≤ n * p + v
    product n p v h = grind arith

    by_test : (b : Bool) → t.number ≤ (cond b (let r : Trimmed = record { number = t.number; zeros = cond (eqb t.number 0) 0 (suc t.zeros) } in r) (let r : Trimmed = record { number = t.number * 10 ^ (suc t.zeros) + digit_value d; zeros = 0 } in r)).number
    by_test true = omega arith
    by_test false = product t.number (10 ^ (suc t.zeros)) (digit_value d) (one_le_ten (suc t.zeros))

pub number_grows : (t : Trimmed) (ds : List ℕ) → t.number ≤ (with_digits t ds).number
number_grows t [] = omega arith
number_grows t (d ∷ ds) = omega (arith, grows t d, number_grows (with_digit t d) ds)

pub with_digits-append : (t : Trimmed) (xs ys : List ℕ) → with_digits t (xs ++ ys) ≡ with_digits (with_digits t xs) ys
with_digits-append t [] ys = refl
with_digits-append t (x ∷ xs) ys = with_digits-append (with_digit t x) xs ys

pub with_digits-drop : (t : Trimmed) (ds : List ℕ) (i : ℕ) → i < length ds → with_digits (with_digit t (get_or ds i 0)) (drop (i + 1) ds) ≡ with_digits t (drop i ds)
with_digits-drop t ds i h = rw (add-one i) (ap (with_digits t) (sym (drop-cons ds i 0 h)))

abbrev pub whole : Trimmed → ℕ
whole t = t.number * 10 ^ t.zeros

whole_step : (t : Trimmed) (d : ℕ) → whole (with_digit t d) ≡ whole t * 10 + digit_value d
whole_step t d = by_test (eqb d 48) (λ e. eqb-true d 48 e) (eqb t.number 0) (λ e. eqb-true t.number 0 e)
  where
    shift : (n p q v : ℕ) → q ≡ p * 10 → v ≡ 0 → n * q ≡ n * p * 10 + v
    shift n p q v e f = omega (arith, ap (λ x. n * x) e)

    append : (n p q v : ℕ) → q ≡ p * 10 → (n * q + v) * 1 ≡ n * p * 10 + v
    append n p q v e = omega (arith, ap (λ x. n * x) e)

    by_test : (b : Bool) → (b ≡ true → d ≡ 48) → (z : Bool) → (z ≡ true → t.number ≡ 0)
        → whole (cond b (let r : Trimmed = record { number = t.number; zeros = cond z 0 (suc t.zeros) } in r) (let r : Trimmed = record { number = t.number * 10 ^ (suc t.zeros) + digit_value d; zeros = 0 } in r)) ≡ whole t * 10 + digit_value d
    by_test true h true g =
        let v : digit_value d ≡ 0 = ap digit_value (h refl) in
        rw (g refl, v) (omega arith)
    by_test true h false g = shift t.number (10 ^ t.zeros) (10 ^ suc t.zeros) (digit_value d) (pow-suc 10 t.zeros) (ap digit_value (h refl))
    by_test false h z g = append t.number (10 ^ t.zeros) (10 ^ suc t.zeros) (digit_value d) (pow-suc 10 t.zeros)

pub whole-with_digits : (t : Trimmed) (ds : List ℕ) → whole (with_digits t ds) ≡ digits_value_after 10 (whole t) ds
whole-with_digits t [] = refl
whole-with_digits t (d ∷ ds) = whole-with_digits (with_digit t d) ds ∙ ap (λ n. digits_value_after 10 n ds) (whole_step t d)

abbrev pub IsBare : ℕ → Type 0
IsBare n = n % 10 ≡ 0 → n ≡ 0

pub bare_digit : (m d : ℕ) → 0 < d → d < 10 → IsBare (m * 10 + d)
bare_digit m d h k e = omega arith

bare_step : (t : Trimmed) (d : ℕ) → IsAsciiDigit d → IsBare t.number → IsBare (with_digit t d).number
bare_step t d h b = by_test (eqb d 48) (λ e k. not_true e (eq-eqb d 48 k))
  where
    not_true : {b : Bool} → b ≡ false → b ≡ true → ⊥
    not_true e f = cc

    shape : (n p q v : ℕ) → q ≡ p * 10 → n * q + v ≡ (n * p) * 10 + v
    shape n p q v e = omega (arith, ap (λ x. n * x) e)

    by_test : (c : Bool) → (c ≡ false → d ≢ 48) → IsBare (cond c (let r : Trimmed = record { number = t.number; zeros = cond (eqb t.number 0) 0 (suc t.zeros) } in r) (let r : Trimmed = record { number = t.number * 10 ^ (suc t.zeros) + digit_value d; zeros = 0 } in r)).number
    by_test true g = b
    by_test false g =
        let v = value_small d h (g refl) in
        subst IsBare (sym (shape t.number (10 ^ t.zeros) (10 ^ suc t.zeros) (digit_value d) (pow-suc 10 t.zeros))) (bare_digit (t.number * 10 ^ t.zeros) (digit_value d) v.0 v.1)

pub bare-with_digits : (t : Trimmed) (ds : List ℕ) → AllDigits 10 ds → IsBare t.number → IsBare (with_digits t ds).number
bare-with_digits t [] h b = b
bare-with_digits t (d ∷ ds) h b = bare-with_digits (with_digit t d) ds h.1 (bare_step t d (is_digit d h.0) b)

no_zeros : (m n p : ℕ) → 1 ≤ p → m ≡ (n * p) * 10 → m ≡ 0 → m ≡ n
no_zeros m zero p h r k = k
no_zeros m (suc n) p h r k = let l : p ≤ suc n * p = grind arith in absurd (omega (arith, r, k, l))

bare_zeros : (m n z : ℕ) → IsBare m → m ≡ n * 10 ^ suc z → m ≡ n
bare_zeros m n z b e =
    let r : m ≡ (n * 10 ^ z) * 10 = e ∙ omega (arith, ap (λ x. n * x) (pow-suc 10 z)) in
    no_zeros m n (10 ^ z) (one_le_ten z) r (b (omega (arith, r)))

-- a number is the same bare number and zeros in one way
pub bare_same : (m n w z : ℕ) → IsBare m → IsBare n → m * 10 ^ w ≡ n * 10 ^ z → m ≡ n
bare_same m n zero zero b c e = omega (arith, e)
bare_same m n zero (suc z) b c e = bare_zeros m n z b (omega (arith, e))
bare_same m n (suc w) zero b c e = sym (bare_zeros n m w c (omega (arith, e)))
bare_same m n (suc w) (suc z) b c e = bare_same m n w z b c (cancel (10 ^ w) (10 ^ suc w) (10 ^ z) (10 ^ suc z) (pow-suc 10 w) (pow-suc 10 z) e)
  where
    cancel : (p p' q q' : ℕ) → p' ≡ p * 10 → q' ≡ q * 10 → m * p' ≡ n * q' → m * p ≡ n * q
    cancel p p' q q' f g e = omega (arith, e, ap (λ x. m * x) f, ap (λ x. n * x) g)

pub value-with_digits : (ds : List ℕ) → digits_value 10 ds ≡ (with_digits nothing ds).number * 10 ^ (with_digits nothing ds).zeros
value-with_digits ds = sym (whole-with_digits nothing ds)
