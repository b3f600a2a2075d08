-- Numbers that are whole.
use Rattle.std.proofs.Common.{◌≡◌, sym, ap, ◌∙◌, ℤ}
use Rattle.fractions.specs.Rational.{ℚ, numerator, denominator, frac}
use Rattle.fractions.specs.Whole.{whole_ℚ}
use Rattle.fractions.proofs.Parts.{frac_self}
use Rattle.fractions.proofs.Whole.{denominator-whole}
use Rattle.optimality.specs.Optimal.{IsWhole}

pub whole_is : (x : ℚ) → IsWhole x → x ≡ whole_ℚ (numerator x)
whole_is x e = sym (frac_self x) ∙ ap (frac (numerator x)) e

pub is_whole : (x : ℚ) (z : ℤ) → x ≡ whole_ℚ z → IsWhole x
is_whole x z e = ap denominator e ∙ denominator-whole z
