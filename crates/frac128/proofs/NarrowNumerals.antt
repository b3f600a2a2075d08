-- Which numerals are narrow, by their test.
use Rattle.std.proofs.Common.{◌≡◌, ℕ, ◌<◌, ◌^◌, Bool, true, false, refl, arith}
use Rattle.std.specs.Prelude.{◌&&◌, nat_lt}
use Rattle.std.specs.Str.Parse.{digits_value}
use Rattle.std.proofs.lemmas.Bool.Decides.{nat_tests}
use Rattle.frac128.specs.Narrow.{is_narrow}
use Rattle.frac128.specs.Numeral.{Numeral, IsNarrowNumeral, NumeralTest, is_narrow_numeral, all_digits, significant, value}
use Rattle.frac128.proofs.NarrowLaws.{narrow_test}

-- both tests hold
both_true : (b : Bool) (m n : ℕ) → b ≡ true → m < n → (b && nat_lt m n) ≡ true
both_true b m n e h = grind (arith, nat_tests)

-- and what they say
both_say : (b : Bool) (m n : ℕ) → (b && nat_lt m n) ≡ true → (b ≡ true) × (m < n)
both_say false m n e = absurd cc
both_say true m n e = (refl, grind (arith, nat_tests))

-- a narrow numeral passes the test
pub narrow_passes : (n : Numeral) → IsNarrowNumeral n → is_narrow_numeral n ≡ true
narrow_passes n h = both_true (is_narrow (value n)) (digits_value 10 (significant (all_digits n))) (2 ^ 127) ((narrow_test (value n)).1 h.value) h.digits

-- what passes is narrow
passing : (n : Numeral) → is_narrow_numeral n ≡ true → IsNarrowNumeral n
passing n e =
    let k = both_say (is_narrow (value n)) (digits_value 10 (significant (all_digits n))) (2 ^ 127) e in
    record { value = (narrow_test (value n)).0 k.0; digits = k.1 }

-- another doesn't pass
pub wide_fails : (n : Numeral) → (IsNarrowNumeral n → ⊥) → is_narrow_numeral n ≡ false
wide_fails n h = by_case (is_narrow_numeral n) refl
  where
    by_case : (b : Bool) → is_narrow_numeral n ≡ b → b ≡ false
    by_case false e = refl
    by_case true e = absurd (h (passing n e))

pub numeral_test : NumeralTest
numeral_test n = (passing n, narrow_passes n)
