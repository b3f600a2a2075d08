-- A whole number reads back as it is printed.
use Rattle.std.proofs.Common.{◌≡◌, ℕ, ◌^◌, ◌<◌, ◌≤◌, Bool, true, false, List, [], ◌++◌, refl, sym, ap, ap₂, subst, ◌∙◌, arith, lit<, ℤ, pos, negsuc}
use Rattle.std.specs.Prelude.{unsigned_abs}
use Rattle.std.specs.Fmt.{decimal}
use Rattle.std.specs.Str.Parse.{digits_value}
use Rattle.std.proofs.lemmas.Fmt.{decimal_is_IsNumeral_wide}
use Rattle.std.proofs.lemmas.List.{append-nil}
use Rattle.fractions.specs.Rational.{ℚ, frac, numerator, denominator, ◌*ℚ◌}
use Rattle.fractions.specs.Whole.{whole_ℚ}
use Rattle.fractions.proofs.Laws.{mul-one}
use Rattle.fractions.proofs.Parts.{frac_self}
use Rattle.fractions.proofs.Powers.{power_rules}
use Rattle.frac128.specs.Signed.{signed}
use Rattle.frac128.specs.Narrow.{IsNarrow}
use Rattle.frac128.specs.Numeral.{Numeral, Spells, unsigned, minus, digits, absent, plain, SpellsSign, scaled, value, all_digits, significant}
use Rattle.frac128.specs.Printed.{minus_text}
use Rattle.frac128.proofs.Digits.{append-digits}
use Rattle.frac128.proofs.Zeros.{narrow-digits, significant-le}

abbrev pub is_minus : ℤ → Bool
is_minus (pos n) = false
is_minus (negsuc n) = true

pub minus-spelled : (z : ℤ) → SpellsSign (minus_text z) (is_minus z)
minus-spelled (pos n) = unsigned
minus-spelled (negsuc n) = minus

pub signed-abs : (z : ℤ) → signed (is_minus z) (unsigned_abs z) ≡ z
signed-abs (pos n) = refl
signed-abs (negsuc n) = refl

pub below-64 : (n : ℕ) → n < 2 ^ 127 → n < 10 ^ 64
below-64 n h = let t : 2 ^ 127 < 10 ^ 64 = lit< tt in omega (arith, t)

abbrev pub whole-numeral : ℚ → Numeral
whole-numeral x = record { negative = is_minus (numerator x); before = decimal (unsigned_abs (numerator x)); behind = []; exponent = pos 0; percent = false }

pub record ReadsBack (x : ℚ) (text : List ℕ) (n : Numeral) : Type 0 where
  pub spelled : Spells text n
  pub narrow : digits_value 10 (significant (all_digits n)) < 2 ^ 127
  pub same : value n ≡ x

pub whole-back : (x : ℚ) → IsNarrow x → denominator x ≡ 1 → ReadsBack x (minus_text (numerator x) ++ decimal (unsigned_abs (numerator x))) (whole-numeral x)
whole-back x h e =
    let z = numerator x in
    let n = unsigned_abs z in
    let d = decimal_is_IsNumeral_wide n (below-64 n h.num) in
    let all : digits_value 10 (decimal n ++ []) ≡ n = ap (digits_value 10) (append-nil (decimal n)) ∙ d.1 in
    record {
      spelled = record {
        sign = minus_text z;
        mantissa = decimal n;
        exponent = [];
        percent = [];
        joined = ap (λ r. minus_text z ++ r) (sym (append-nil (decimal n)));
        sign_is = minus-spelled z;
        mantissa_is = digits (decimal n) d.0;
        exponent_is = absent;
        percent_is = plain;
      };
      narrow = narrow-digits _ n (subst (λ v. digits_value 10 (significant (decimal n ++ [])) ≤ v) all (significant-le (decimal n ++ []) (append-digits (decimal n) [] d.0.1 tt))) h.num;
      same = ap (λ v. scaled (is_minus z) v (pos 0)) all
          ∙ ap (λ p. whole_ℚ (signed (is_minus z) n) *ℚ p) (power_rules.none (whole_ℚ (pos 10)))
          ∙ mul-one _
          ∙ ap₂ frac (signed-abs z) (sym e)
          ∙ frac_self x;
    }
