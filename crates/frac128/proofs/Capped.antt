-- An exponent that is cut at the cap gives the same answer.
use Rattle.std.proofs.Common.{◌≡◌, ℕ, ◌*◌, ◌^◌, ◌<◌, ◌≤◌, Bool, true, false, Option, Some, None, sym, ap, subst, ◌∙◌, arith, ⊎_elim, ◌⊎◌, inl, inr, min, MatchOption, ℤ, pos, negsuc, ◌+ℤ◌, ◌-ℤ◌}
use Rattle.std.specs.Prelude.{◌<ℤ◌}
use Rattle.std.specs.Str.Parse.{digits_value}
use Rattle.std.proofs.lemmas.Bool.{cases_eq, cases_lt}
use Rattle.std.proofs.lemmas.Int.{ints}
use Rattle.fractions.specs.Rational.{ℚ}
use Rattle.frac128.specs.Narrow.{IsNarrow}
use Rattle.frac128.specs.Numeral.{Numeral, IsNarrowNumeral, value, scaled, all_digits, places, significant}
use Rattle.frac128.specs.Signed.{signed}
use Rattle.frac128.specs.Scaled.{IsScaled}
use Rattle.frac128.proofs.Tens.{scaled-zero, scaled-zeros}
use Rattle.frac128.proofs.NarrowTens.{wide-exponent}

-- the power of ten for a number with z zeros behind it, an exponent, b digits behind the point and p for the percent
abbrev pub power_of : ℕ → Bool → ℕ → ℕ → ℕ → ℤ
power_of z t v b p = pos z +ℤ ((signed t v -ℤ pos b) -ℤ pos p)

far : (z b p v : ℕ) (t : Bool) → z < 2 ^ 64 → b < 2 ^ 64 → p ≤ 2 → 2 ^ 70 ≤ v → (pos 38 <ℤ power_of z t v b p) ⊎ (power_of z t v b p <ℤ negsuc 75)
far z b p v false h k l g = inl (omega (arith, ints))
far z b p v true h k l g = inr (omega (arith, ints))

other_none : (r : Option ℚ) (s : Bool) (m : ℕ) (e f : ℤ) → ¬ (IsNarrow (scaled s m e)) → ¬ (IsNarrow (scaled s m f)) → IsScaled r s m e → IsScaled r s m f
other_none None s m e f a b h = b
other_none (Some x) s m e f a b h = absurd (a (subst IsNarrow h.0 h.1))

pub capped-answer : (r : Option ℚ) (s : Bool) (m z b p v : ℕ) (t : Bool) → m < 2 ^ 127 → z < 2 ^ 64 → b < 2 ^ 64 → p ≤ 2
    → IsScaled r s m (power_of z t (min v (2 ^ 70)) b p) → IsScaled r s m (power_of z t v b p)
capped-answer r s m z b p v t l h k g a =
    ⊎_elim
    (λ below. let same : min v (2 ^ 70) ≡ v = omega arith in subst (λ n. IsScaled r s m (power_of z t n b p)) same a)
    (λ above. let most : min v (2 ^ 70) ≡ 2 ^ 70 = omega arith in
    ⊎_elim
    (λ none. let all = zero-same none in subst (λ x. MatchOption r (¬ (IsNarrow x)) (λ f. (f ≡ x) × IsNarrow f)) all a)
    (λ some. other_none r s m (power_of z t (min v (2 ^ 70)) b p) (power_of z t v b p)
    (wide-exponent s m _ some l (far z b p (min v (2 ^ 70)) t h k g (omega (arith, most))))
    (wide-exponent s m _ some l (far z b p v t h k g above)) a)
    (cases_eq m 0))
    (cases_lt v (2 ^ 70))
  where
    zero-same : m ≡ 0 → scaled s m (power_of z t (min v (2 ^ 70)) b p) ≡ scaled s m (power_of z t v b p)
    zero-same e = ap (λ n. scaled s n (power_of z t (min v (2 ^ 70)) b p)) e ∙ scaled-zero s _ ∙ sym (ap (λ n. scaled s n (power_of z t v b p)) e ∙ scaled-zero s _)

-- the answer for a numeral whose digits are the number m and z zeros
pub numeral-answer : (r : Option ℚ) (n : Numeral) (m z : ℕ) → digits_value 10 (all_digits n) ≡ m * 10 ^ z → digits_value 10 (significant (all_digits n)) < 2 ^ 127 → IsScaled r n.negative m (pos z +ℤ places n)
    → MatchOption r (¬ (IsNarrowNumeral n)) (λ f. IsNarrowNumeral n × (f ≡ value n))
numeral-answer r n m z e w h = chosen r (subst (λ x. MatchOption r (¬ (IsNarrow x)) (λ f. (f ≡ x) × IsNarrow f)) (sym same) h)
  where
    same : value n ≡ scaled n.negative m (pos z +ℤ places n)
    same = ap (λ v. scaled n.negative v (places n)) e ∙ scaled-zeros n.negative m z (places n)

    chosen : (r : Option ℚ) → MatchOption r (¬ (IsNarrow (value n))) (λ f. (f ≡ value n) × IsNarrow f) → MatchOption r (¬ (IsNarrowNumeral n)) (λ f. IsNarrowNumeral n × (f ≡ value n))
    chosen None a = λ k. a k.value
    chosen (Some f) a = (record { value = subst IsNarrow a.0 a.1; digits = w }, a.0)
