-- A quotient of two whole numbers and its pair.
use Rattle.std.proofs.Common.{◌≡◌, ◌≢◌, ◌⊎◌, inl, inr, ℕ, zero, suc, ◌<◌, refl, sym, ap, ap₂, ◌∙◌, subst, lit<, arith, ℤ, pos, negsuc, neg_ℤ}
use Rattle.std.proofs.lemmas.Int.{ints}
use Rattle.fractions.specs.Rational.{frac, ◌*ℚ◌, ◌/ℚ◌}
use Rattle.fractions.specs.Whole.{whole_ℚ}
use Rattle.fractions.proofs.Parts.{frac_same}
use Rattle.fractions.proofs.School.{frac-mul}
use Rattle.fractions.proofs.Field.{school_rules}
use Rattle.frac128.specs.Narrow.{IsNarrow}
use Rattle.frac128.specs.Pairs.{Pair, IsNarrowPair, IsSame, HasNarrow, quotient}
use Rattle.frac128.specs.Values.{value}
use Rattle.frac128.proofs.Values.{has_narrow}

some : (e : ℕ) → pos e ≢ pos 0 → 0 < e
some zero h = absurd (h refl)
some (suc e) h = omega arith

quotient_positive : (n d : ℤ) → d ≢ pos 0 → 0 < (quotient n d).den
quotient_positive n (pos e) h = some e h
quotient_positive n (negsuc e) h = omega arith

quotient_value : (n d : ℤ) → d ≢ pos 0 → value (quotient n d) ≡ whole_ℚ n /ℚ whole_ℚ d
quotient_value n (pos e) h =
    sym (ap (λ t. whole_ℚ n *ℚ t) (school_rules.inverse e 1 (lit< tt) (some e h)) ∙ frac-mul n (pos 1) 1 e (lit< tt) (some e h) ∙ ap₂ frac (omega (arith, ints)) (omega arith))
quotient_value n (negsuc e) h =
    sym (ap (λ t. whole_ℚ n *ℚ t) (school_rules.inverse_of_negative e 1 (lit< tt)) ∙ frac-mul n (neg_ℤ (pos 1)) 1 (suc e) (lit< tt) (omega arith) ∙ ap₂ frac (omega (arith, ints)) (omega arith))

pub quotient_made : (n d : ℤ) (f : Pair) → d ≢ pos 0 → IsNarrowPair f → IsSame f (quotient n d) → value f ≡ whole_ℚ n /ℚ whole_ℚ d
quotient_made n d f h p e = frac_same f.num (quotient n d).num f.den (quotient n d).den p.reduced.positive (quotient_positive n d h) e ∙ quotient_value n d h

refused : (n d : ℤ) → d ≢ pos 0 → ¬ ((d ≢ pos 0) × HasNarrow (quotient n d)) → ¬ (IsNarrow (whole_ℚ n /ℚ whole_ℚ d))
refused n d h r i = r (h, (has_narrow (quotient n d) (quotient_positive n d h)).1 (subst IsNarrow (sym (quotient_value n d h)) i))

pub quotient_refused : (n d : ℤ) → ¬ ((d ≢ pos 0) × HasNarrow (quotient n d)) → (d ≡ pos 0) ⊎ ¬ (IsNarrow (whole_ℚ n /ℚ whole_ℚ d))
quotient_refused n (pos zero) r = inl refl
quotient_refused n (pos (suc e)) r = inr (refused n (pos (suc e)) (λ z. cc) r)
quotient_refused n (negsuc e) r = inr (refused n (negsuc e) (λ z. cc) r)
