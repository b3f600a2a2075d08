-- A decimal reads back as it is printed.
use Rattle.std.proofs.Common.{◌≡◌, ℕ, suc, ◌-◌, ◌*◌, ◌/◌, ◌%◌, ◌^◌, ◌<◌, ◌≤◌, false, List, [], ◌∷◌, ◌++◌, length, take, drop, sym, ap, ap₂, subst, ◌∙◌, arith, length-append, length-drop, ℤ, pos, neg_ℤ, ◌*ℤ◌, ◌-ℤ◌}
use Rattle.std.specs.Prelude.{unsigned_abs}
use Rattle.std.specs.Fmt.{decimal}
use Rattle.std.specs.Str.Parse.{AllDigits, IsNumeral, digits_value}
use Rattle.std.proofs.Math.Nat.{div-add-mod'}
use Rattle.std.proofs.lemmas.Fmt.{decimal_is_IsNumeral_wide}
use Rattle.std.proofs.lemmas.Int.{ints}
use Rattle.std.proofs.lemmas.List.{append-nil, take-append-drop, length-take}
use Rattle.fractions.specs.Rational.{ℚ, numerator, denominator}
use Rattle.fractions.proofs.Parts.{frac_same, frac_self, den_pos}
use Rattle.frac128.specs.Signed.{signed}
use Rattle.frac128.specs.Numeral.{Numeral, pointed, absent, plain, scaled, significant}
use Rattle.frac128.specs.Printed.{with_point, minus_text}
use Rattle.frac128.proofs.TenPowers.{one_le_ten}
use Rattle.frac128.proofs.Digits.{append-digits, drop-digits, length-zeros, take-digits, value-zeros, zeros, zeros-digits}
use Rattle.frac128.proofs.Zeros.{narrow-digits, significant-le}
use Rattle.frac128.proofs.Tens.{quotient-is, scaled-down, signed-mul}
use Rattle.frac128.proofs.PrintedWhole.{ReadsBack, below-64, is_minus, minus-spelled, signed-abs}

abbrev padded : ℕ → ℕ → List ℕ
padded m k = zeros (suc k - length (decimal m)) ++ decimal m

abbrev pub front_part : ℕ → ℕ → List ℕ
front_part m k = take (length (padded m k) - k) (padded m k)

abbrev pub back_part : ℕ → ℕ → List ℕ
back_part m k = drop (length (padded m k) - k) (padded m k)

abbrev pub decimal-numeral : ℚ → ℕ → ℕ → Numeral
decimal-numeral x m k = record { negative = is_minus (numerator x); before = front_part m k; behind = back_part m k; exponent = pos 0; percent = false }

long : (m k : ℕ) → suc k ≤ length (padded m k)
long m k = omega (arith, length-append (zeros (suc k - length (decimal m))) (decimal m), length-zeros (suc k - length (decimal m)))

padded-digits : (m k : ℕ) → m < 2 ^ 127 → AllDigits 10 (padded m k) × (digits_value 10 (padded m k) ≡ m)
padded-digits m k h =
    let d = decimal_is_IsNumeral_wide m (below-64 m h) in
    (append-digits (zeros (suc k - length (decimal m))) (decimal m) (zeros-digits _) d.0.1, value-zeros (suc k - length (decimal m)) (decimal m) ∙ d.1)

both-sides : (m k : ℕ) → front_part m k ++ back_part m k ≡ padded m k
both-sides m k = take-append-drop (length (padded m k) - k) (padded m k)

before-numeral : (m k : ℕ) → m < 2 ^ 127 → IsNumeral 10 (front_part m k)
before-numeral m k h = (omega (arith, long m k, length-take (length (padded m k) - k) (padded m k)), take-digits _ (padded m k) (padded-digits m k h).0)

behind-digits : (m k : ℕ) → m < 2 ^ 127 → AllDigits 10 (back_part m k)
behind-digits m k h = drop-digits _ (padded m k) (padded-digits m k h).0

length-behind : (m k : ℕ) → length (back_part m k) ≡ k
length-behind m k = omega (arith, long m k, length-drop (length (padded m k) - k) (padded m k))

-- m / 10 ^ k is n / d, where d divides 10 ^ k
crossed : (z : ℤ) (d m k : ℕ) → m ≡ unsigned_abs z * (10 ^ k / d) → (10 ^ k) % d ≡ 0 → signed (is_minus z) m *ℤ pos d ≡ z *ℤ pos (10 ^ k)
crossed z d m k e f =
    let exact : (10 ^ k / d) * d ≡ 10 ^ k = whole_quotient (10 ^ k) d f in
    let sizes : m * d ≡ unsigned_abs z * 10 ^ k = ap (λ q. q * d) e ∙ regroup (unsigned_abs z) (10 ^ k / d) d ∙ ap (λ q. unsigned_abs z * q) exact in
    signed-mul (is_minus z) m d ∙ ap (signed (is_minus z)) sizes ∙ sym (signed-mul (is_minus z) (unsigned_abs z) (10 ^ k)) ∙ ap (λ w. w *ℤ pos (10 ^ k)) (signed-abs z)
  where
    whole_quotient : (a b : ℕ) → a % b ≡ 0 → (a / b) * b ≡ a
    whole_quotient a b h = omega (arith, div-add-mod' a b)

    regroup : (a b c : ℕ) → (a * b) * c ≡ a * (b * c)
    regroup a b c = omega arith

pub decimal-back : (x : ℚ) (m k : ℕ) → m ≡ unsigned_abs (numerator x) * (10 ^ k / denominator x) → m < 2 ^ 127 → (10 ^ k) % denominator x ≡ 0
    → ReadsBack x (minus_text (numerator x) ++ with_point (decimal m) k) (decimal-numeral x m k)
decimal-back x m k e h f =
    let z = numerator x in
    let mantissa = front_part m k ++ (46 ∷ back_part m k) in
    let p = padded-digits m k h in
    let all : digits_value 10 (front_part m k ++ back_part m k) ≡ m = ap (digits_value 10) (both-sides m k) ∙ p.1 in
    let far : (pos 0 -ℤ pos (length (back_part m k))) -ℤ pos 0 ≡ neg_ℤ (pos k) = ap (λ l. (pos 0 -ℤ pos l) -ℤ pos 0) (length-behind m k) ∙ below k in
    record {
      spelled = record {
        sign = minus_text z;
        mantissa = mantissa;
        exponent = [];
        percent = [];
        joined = ap (λ r. minus_text z ++ r) (sym (append-nil mantissa));
        sign_is = minus-spelled z;
        mantissa_is = pointed (front_part m k) (back_part m k) (before-numeral m k h) (behind-digits m k h);
        exponent_is = absent;
        percent_is = plain;
      };
      narrow = narrow-digits _ m (subst (λ v. digits_value 10 (significant (front_part m k ++ back_part m k)) ≤ v) all (significant-le (front_part m k ++ back_part m k) (append-digits (front_part m k) (back_part m k) (before-numeral m k h).1 (behind-digits m k h)))) h;
      same = ap₂ (scaled (is_minus z)) all far
          ∙ scaled-down (is_minus z) m k
          ∙ quotient-is (signed (is_minus z) m) (10 ^ k) (one_le_ten k)
          ∙ frac_same (signed (is_minus z) m) z (10 ^ k) (denominator x) (one_le_ten k) (den_pos x) (crossed z (denominator x) m k e f)
          ∙ frac_self x;
    }
  where
    below : (k : ℕ) → (pos 0 -ℤ pos k) -ℤ pos 0 ≡ neg_ℤ (pos k)
    below k = omega (arith, ints)
