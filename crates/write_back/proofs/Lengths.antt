-- How long a number's text is.
use Rattle.std.proofs.Common.{◌≡◌, ℕ, suc, ◌+◌, ◌-◌, ◌*◌, ◌/◌, ◌^◌, ◌<◌, ◌≤◌, Bool, true, false, cond, eqb, nat_lt, List, ◌∷◌, ◌++◌, length, take, drop, length-append, Option, Some, None, refl, sym, ap, ◌∙◌, arith, ℤ, pos, negsuc, lit<}
use Rattle.std.specs.Prelude.{replicate, unsigned_abs}
use Rattle.std.specs.Fmt.{decimal}
use Rattle.std.proofs.lemmas.Bool.{ltb-true}
use Rattle.std.proofs.lemmas.Fmt.{decimal_is_IsNumeral_wide, length-decimal-le_wide}
use Rattle.std.proofs.lemmas.List.{length-replicate, take-append-drop}
use Rattle.fractions.specs.Rational.{ℚ, numerator, denominator}
use Rattle.frac128.specs.Narrow.{IsNarrow}
use Rattle.frac128.specs.Printed.{decimal_with, fraction_text, least_places, minus_text, printed, short_decimal, size_text, with_point}
use Rattle.frac128.proofs.Printing.{places-small}
use Rattle.frac128.proofs.PrintedWhole.{below-64}

-- some bytes, and no more than so many
pub record IsShort (limit : ℕ) (bytes : List ℕ) : Type 0 where
  pub some : 0 < length bytes
  pub most : length bytes ≤ limit

digits_short : (n : ℕ) → n < 2 ^ 127 → IsShort 40 (decimal n)
digits_short n h =
    let t : 2 ^ 127 < 10 ^ 40 = lit< tt in
    record { some = (decimal_is_IsNumeral_wide n (below-64 n h)).0.0; most = length-decimal-le_wide 40 n (lit< tt) (omega (arith, t)) (below-64 n h) }

point_short : (ds : List ℕ) (k : ℕ) → length ds ≤ 40 → k < 19 → IsShort 81 (with_point ds k)
point_short ds k h j =
    let padded = replicate (suc k - length ds) 48 ++ ds in
    let i = length padded - k in
    let z : length padded ≡ (suc k - length ds) + length ds = length-append (replicate (suc k - length ds) 48) ds ∙ ap (λ n. n + length ds) (length-replicate (suc k - length ds) 48) in
    let both : length (take i padded) + length (drop i padded) ≡ length padded = sym (length-append (take i padded) (drop i padded)) ∙ ap length (take-append-drop i padded) in
    let all : length (with_point ds k) ≡ length (take i padded) + suc (length (drop i padded)) = length-append (take i padded) (46 ∷ drop i padded) in
    record { some = omega (arith, all); most = omega (arith, all, both, z) }

quotient_short : (n d : ℕ) → n < 2 ^ 127 → d < 2 ^ 127 → IsShort 81 (fraction_text n d None)
quotient_short n d h k =
    let a = digits_short n h in
    let b = digits_short d k in
    let all : length (decimal n ++ (47 ∷ decimal d)) ≡ length (decimal n) + suc (length (decimal d)) = length-append (decimal n) (47 ∷ decimal d) in
    record { some = omega (arith, all); most = omega (arith, all, a.most, b.most) }

fraction_short : (n d : ℕ) → n < 2 ^ 127 → d < 2 ^ 127 → IsShort 81 (fraction_text n d (short_decimal n d))
fraction_short n d h k = by (least_places 19 0 d) refl
  where
    by_size : (m j : ℕ) → j < 19 → (t : Bool) → (t ≡ true → m < 2 ^ 127) → IsShort 81 (fraction_text n d (cond t (Some (record { digits = m; places = j })) None))
    by_size m j few true small = point_short (decimal m) j (digits_short m (small refl)).most few
    by_size m j few false small = quotient_short n d h k

    by : (o : Option ℕ) → least_places 19 0 d ≡ o → IsShort 81 (fraction_text n d (decimal_with n d o))
    by None e = quotient_short n d h k
    by (Some j) e = let m = n * (10 ^ j / d) in by_size m j (places-small 19 0 d j e).0 (nat_lt m (2 ^ 127)) (ltb-true m (2 ^ 127))

size_short : (n d : ℕ) → n < 2 ^ 127 → d < 2 ^ 127 → IsShort 81 (size_text n d)
size_short n d h k = by (eqb d 1)
  where
    by : (t : Bool) → IsShort 81 (cond t (decimal n) (fraction_text n d (short_decimal n d)))
    by true = let s = digits_short n h in record { some = s.some; most = let m = s.most in omega arith }
    by false = fraction_short n d h k

with_minus : (z : ℤ) (bytes : List ℕ) → IsShort 81 bytes → IsShort 82 (minus_text z ++ bytes)
with_minus (pos n) bytes s = record { some = s.some; most = let m = s.most in omega arith }
with_minus (negsuc n) bytes s = record { some = omega arith; most = let m = s.most in omega arith }

-- a narrow number's text
pub printed_short : (x : ℚ) → IsNarrow x → IsShort 82 (printed x)
printed_short x h = with_minus (numerator x) _ (size_short (unsigned_abs (numerator x)) (denominator x) h.num h.den)
