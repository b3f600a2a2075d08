-- The digits in front of a text.
use Rattle.std.proofs.Common.{◌≡◌, ℕ, suc, ◌+◌, ◌<◌, Bool, true, false, cond, ◌||◌, nat_lt, nat_eq, List, [], ◌∷◌, ◌++◌, length, take, drop, refl, sym, ap, subst, ◌∙◌, arith}
use Rattle.std.proofs.Math.Seq.{take-append_seam, drop-append_seam}
use Rattle.std.proofs.lemmas.List.{take-append-drop}
use Rattle.std.proofs.lemmas.List.Folds.{length-prefix_len}
use Rattle.std.proofs.lemmas.Bool.{ltb-true, le-leb, and_parts, and_from}
use Rattle.std.proofs.lemmas.Str.Parse.{digit_from_value}
use Rattle.std.specs.Char.{digit_value, is_ascii_digit}
use Rattle.std.specs.List.{prefix_len}
use Rattle.std.specs.Str.Parse.{AllDigits}
use Rattle.frac128.specs.NumeralReading.{digits_len, front_digits, past_digits, past_sign, front_fraction, exponent_digits}

-- the list is empty, or its first byte fails the test
abbrev pub NotFirst : (ℕ → Bool) → List ℕ → Type 0
NotFirst p [] = Unit {0}
NotFirst p (b ∷ bytes) = p b ≡ false

test_digit : (d : ℕ) → digit_value d < 10 → is_ascii_digit d ≡ true
test_digit d h = let r = digit_from_value d h in and_from _ _ (le-leb 48 d r.0) (le-leb d 57 r.1)

digit_test : (d : ℕ) → is_ascii_digit d ≡ true → digit_value d < 10
digit_test d e = grind (arith, and_parts)

front-len : (ds rest : List ℕ) → AllDigits 10 ds → NotFirst is_ascii_digit rest → prefix_len is_ascii_digit (ds ++ rest) ≡ length ds
front-len [] [] h n = refl
front-len [] (b ∷ bytes) h n = ap (λ t. cond t (1 + prefix_len is_ascii_digit bytes) 0) n
front-len (d ∷ ds) rest h n = ap (λ t. cond t (1 + prefix_len is_ascii_digit (ds ++ rest)) 0) (test_digit d h.0) ∙ one (front-len ds rest h.1 n)
  where
    one : {m k : ℕ} → m ≡ k → 1 + m ≡ suc k
    one e = omega (arith, e)

len_is : (bytes : List ℕ) → digits_len bytes ≡ prefix_len is_ascii_digit bytes
len_is bytes = length-prefix_len is_ascii_digit bytes

module _ (ds rest : List ℕ) (h : AllDigits 10 ds) (n : NotFirst is_ascii_digit rest) where
  seam : digits_len (ds ++ rest) ≡ length ds
  seam = len_is (ds ++ rest) ∙ front-len ds rest h n

  pub front-append : front_digits (ds ++ rest) ≡ ds
  front-append = ap (λ k. take k (ds ++ rest)) seam ∙ take-append_seam ds rest

  pub past-append : past_digits (ds ++ rest) ≡ rest
  past-append = ap (λ k. drop k (ds ++ rest)) seam ∙ drop-append_seam ds rest

pub front-past : (bytes : List ℕ) → bytes ≡ front_digits bytes ++ past_digits bytes
front-past bytes = sym (take-append-drop (digits_len bytes) bytes)

prefix-digits : (bytes : List ℕ) → AllDigits 10 (take (prefix_len is_ascii_digit bytes) bytes)
prefix-digits [] = tt
prefix-digits (b ∷ bytes) = by_test (is_ascii_digit b) (digit_test b) (prefix-digits bytes)
  where
    one : (n : ℕ) → 1 + n ≡ suc n
    one n = omega arith

    by_test : (t : Bool) → (t ≡ true → digit_value b < 10) → AllDigits 10 (take (prefix_len is_ascii_digit bytes) bytes) → AllDigits 10 (take (cond t (1 + prefix_len is_ascii_digit bytes) 0) (b ∷ bytes))
    by_test true h r = rw (one (prefix_len is_ascii_digit bytes)) (h refl, r)
    by_test false h r = tt

pub front-is-digits : (bytes : List ℕ) → AllDigits 10 (front_digits bytes)
front-is-digits bytes = subst (λ k. AllDigits 10 (take k bytes)) (sym (len_is bytes)) (prefix-digits bytes)

pub fraction-is-digits : (bytes : List ℕ) → AllDigits 10 (front_fraction bytes)
fraction-is-digits [] = tt
fraction-is-digits (b ∷ bytes) = by_test (nat_eq b 46)
  where
    by_test : (t : Bool) → AllDigits 10 (cond t (front_digits bytes) [])
    by_test true = front-is-digits bytes
    by_test false = tt

pub exponent-is-digits : (bytes : List ℕ) → AllDigits 10 (exponent_digits bytes)
exponent-is-digits [] = tt
exponent-is-digits (b ∷ bytes) = by_test (nat_eq b 101 || nat_eq b 69)
  where
    by_test : (t : Bool) → AllDigits 10 (cond t (front_digits (past_sign bytes)) [])
    by_test true = front-is-digits (past_sign bytes)
    by_test false = tt

pub some : (ds : List ℕ) → nat_lt 0 (length ds) ≡ true → 0 < length ds
some ds e = ltb-true 0 (length ds) e
