-- Digits one by one: their values, and what stays when they are cut, joined or turned round.
use Rattle.std.proofs.Common.{◌≡◌, ◌≢◌, ℕ, zero, suc, ◌+◌, ◌*◌, ◌<◌, ◌-◌, List, [], ◌∷◌, ◌++◌, length, drop, reverse, get_or, refl, sym, ap, subst, ◌∙◌, arith, drop-cons, add-one, lit<, take, replicate}
use Rattle.std.proofs.lemmas.Str.Parse.{digit_from_value}
use Rattle.std.proofs.lemmas.List.{reverse-append, replicate-append-replicate, length-replicate}
use Rattle.std.specs.Char.{digit_value, IsAsciiDigit}
use Rattle.std.specs.Str.Parse.{AllDigits, digits_value, digits_value_after}

pub digit_is : (d : ℕ) → IsAsciiDigit d → digit_value d ≡ d - 48
digit_is d h = grind arith

pub value_small : (d : ℕ) → IsAsciiDigit d → d ≢ 48 → (0 < digit_value d) × (digit_value d < 10)
value_small d h n = rw (digit_is d h) (omega arith, omega arith)

pub is_digit : (d : ℕ) → digit_value d < 10 → IsAsciiDigit d
is_digit d h = digit_from_value d h

value-snoc : (n : ℕ) (ds : List ℕ) (d : ℕ) → digits_value_after 10 n (ds ++ (d ∷ [])) ≡ digits_value_after 10 n ds * 10 + digit_value d
value-snoc n [] d = refl
value-snoc n (x ∷ ds) d = value-snoc (n * 10 + digit_value x) ds d

pub value-reverse : (d : ℕ) (ds : List ℕ) → digits_value 10 (reverse (d ∷ ds)) ≡ digits_value 10 (reverse ds) * 10 + digit_value d
value-reverse d ds = ap (digits_value 10) (reverse-append (d ∷ []) ds) ∙ value-snoc 0 (reverse ds) d

pub append-digits : (xs ys : List ℕ) → AllDigits 10 xs → AllDigits 10 ys → AllDigits 10 (xs ++ ys)
append-digits [] ys h k = k
append-digits (x ∷ xs) ys h k = (h.0, append-digits xs ys h.1 k)

pub reverse-digits : (ds : List ℕ) → AllDigits 10 ds → AllDigits 10 (reverse ds)
reverse-digits [] h = h
reverse-digits (d ∷ ds) h = subst (AllDigits 10) (sym (reverse-append (d ∷ []) ds)) (append-digits (reverse ds) (d ∷ []) (reverse-digits ds h.1) (h.0, tt))

pub value-drop : (n : ℕ) (ds : List ℕ) (i : ℕ) → i < length ds → digits_value_after 10 (n * 10 + digit_value (get_or ds i 0)) (drop (i + 1) ds) ≡ digits_value_after 10 n (drop i ds)
value-drop n ds i h = rw (add-one i) (ap (digits_value_after 10 n) (sym (drop-cons ds i 0 h)))

pub take-digits : (k : ℕ) (ds : List ℕ) → AllDigits 10 ds → AllDigits 10 (take k ds)
take-digits zero ds h = tt
take-digits (suc k) [] h = tt
take-digits (suc k) (d ∷ ds) h = (h.0, take-digits k ds h.1)

pub drop-digits : (k : ℕ) (ds : List ℕ) → AllDigits 10 ds → AllDigits 10 (drop k ds)
drop-digits zero ds h = h
drop-digits (suc k) [] h = tt
drop-digits (suc k) (d ∷ ds) h = drop-digits k ds h.1

-- so many zeros
abbrev pub zeros : ℕ → List ℕ
zeros n = replicate n 48

pub zeros-digits : (n : ℕ) → AllDigits 10 (zeros n)
zeros-digits zero = tt
zeros-digits (suc n) = (lit< tt, zeros-digits n)

pub value-zeros : (n : ℕ) (ds : List ℕ) → digits_value 10 (zeros n ++ ds) ≡ digits_value 10 ds
value-zeros zero ds = refl
value-zeros (suc n) ds = value-zeros n ds

pub zeros-snoc : (n : ℕ) → zeros n ++ (48 ∷ []) ≡ zeros (n + 1)
zeros-snoc n = replicate-append-replicate n 1 48

pub length-zeros : (n : ℕ) → length (zeros n) ≡ n
length-zeros n = length-replicate {A = ℕ} n 48
