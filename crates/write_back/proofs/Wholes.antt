-- The digits of a whole number are a numeral of it, and a fraction is a quotient of two whole numbers.
use Rattle.std.proofs.Common.{◌≡◌, ◌≢◌, ℕ, suc, ◌<◌, ◌^◌, List, ◌++◌, refl, sym, ap, subst, ◌∙◌, arith, inl, pos, negsuc, lit<}
use Rattle.std.specs.Prelude.{unsigned_abs}
use Rattle.std.specs.Fmt.{decimal}
use Rattle.std.proofs.lemmas.Int.{ints}
use Rattle.fractions.specs.Rational.{ℚ, numerator, denominator, neg_ℚ, zero_ℚ, ◌/ℚ◌}
use Rattle.fractions.specs.Whole.{whole_ℚ}
use Rattle.fractions.proofs.Parts.{frac_self, den_pos}
use Rattle.fractions.proofs.Whole.{whole_numbers, whole-zero}
use Rattle.frac128.specs.Narrow.{IsNarrow}
use Rattle.frac128.specs.Numeral.{Numeral, Spells, IsNarrowNumeral, value}
use Rattle.frac128.specs.Printed.{minus_text, size_text, printed}
use Rattle.frac128.specs.Values.{pair_of}
use Rattle.frac128.proofs.Quotients.{quotient_made}
use Rattle.frac128.proofs.ReadBack.{printed_reads_back}
use Rattle.frac128.proofs.Values.{reduced_pair}

-- a narrow numeral of a number
pub record IsNumeralOf (text : List ℕ) (x : ℚ) : Type 0 where
  pub numeral : Numeral
  pub spelled : Spells text numeral
  pub narrow : IsNarrowNumeral numeral
  pub same : value numeral ≡ x

narrow_whole : (n : ℕ) → n < 2 ^ 127 → IsNarrow (whole_ℚ (pos n))
narrow_whole n h = record {
  num = subst (λ z. unsigned_abs z < 2 ^ 127) (sym (whole_numbers.on_top (pos n))) h;
  den = subst (λ d. d < 2 ^ 127) (sym (whole_numbers.beneath (pos n))) (lit< tt);
}

printed_whole : (n : ℕ) → printed (whole_ℚ (pos n)) ≡ decimal n
printed_whole n =
    ap (λ z. minus_text z ++ size_text (unsigned_abs z) (denominator (whole_ℚ (pos n)))) (whole_numbers.on_top (pos n))
    ∙ ap (λ d. size_text n d) (whole_numbers.beneath (pos n))

pub whole_numeral : (n : ℕ) → n < 2 ^ 127 → IsNumeralOf (decimal n) (whole_ℚ (pos n))
whole_numeral n h =
    let b = printed_reads_back (whole_ℚ (pos n)) (narrow_whole n h) (inl (whole_numbers.beneath (pos n))) in
    subst (λ t. IsNumeralOf t (whole_ℚ (pos n))) (printed_whole n) (record { numeral = b.0; spelled = b.1.0; narrow = b.1.1; same = b.1.2 })

-- the quotient of its parts is the number
pub quotient_of : (x : ℚ) → IsNarrow x → whole_ℚ (numerator x) /ℚ whole_ℚ (pos (denominator x)) ≡ x
quotient_of x h =
    let some = den_pos x in
    sym (quotient_made (numerator x) (pos (denominator x)) (pair_of x) (λ e. absurd (omega (arith, ints))) (record { num = h.num; den = h.den; reduced = reduced_pair x }) refl) ∙ frac_self x

-- the denominator isn't 0
pub whole_some : (d : ℕ) → 0 < d → whole_ℚ (pos d) ≢ zero_ℚ
whole_some d h e = let k : pos d ≡ pos 0 = whole_numbers.injective (pos d) (pos 0) (e ∙ sym whole-zero) in absurd (omega (arith, ints))

pub whole_neg : (n : ℕ) → neg_ℚ (whole_ℚ (pos (suc n))) ≡ whole_ℚ (negsuc n)
whole_neg n = sym (whole_numbers.negative (pos (suc n)))
