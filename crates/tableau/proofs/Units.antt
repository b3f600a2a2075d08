-- Products with 1 and -1, and sums with 0.
use Rattle.std.proofs.Common.{◌≡◌, sym, ap, ◌∙◌, subst}
use Rattle.fractions.specs.Rational.{ℚ, zero_ℚ, one_ℚ, neg_ℚ, ◌+ℚ◌, ◌*ℚ◌}
use Rattle.fractions.proofs.Laws.{one-mul, mul_comm, neg-mul, neg-neg, zero-add}
use Rattle.frac128.specs.Narrow.{IsNarrow, IsNarrowSum}
use Rattle.frac128.proofs.NarrowLaws.{narrow_sum_comm}
use Rattle.dictionaries.specs.Narrow.{IsNarrowStep}
use Rattle.tableau.proofs.Zeros.{narrow_sum-zero}

pub times_one : (f n : ℚ) → f ≡ one_ℚ → n ≡ f *ℚ n
times_one f n e = sym (ap (λ t. t *ℚ n) e ∙ one-mul n)

pub times_minus_one : (f n r : ℚ) → neg_ℚ f ≡ one_ℚ → r ≡ neg_ℚ n → r ≡ f *ℚ n
times_minus_one f n r e q = q ∙ ap neg_ℚ (sym (one-mul n) ∙ ap (λ t. t *ℚ n) (sym e) ∙ neg-mul f n) ∙ neg-neg (f *ℚ n)

pub exchanged : (b c r : ℚ) → (r ≡ c *ℚ b) × IsNarrow r → (r ≡ b *ℚ c) × IsNarrow (b *ℚ c)
exchanged b c r h = let e : r ≡ b *ℚ c = h.0 ∙ mul_comm c b in (e, subst IsNarrow e h.1)

pub plus_none : (a b c r : ℚ) → a ≡ zero_ℚ → (r ≡ b *ℚ c) × IsNarrow (b *ℚ c) → (r ≡ a +ℚ b *ℚ c) × IsNarrowStep a b c
unfolding IsNarrowStep
plus_none a b c r e h = (
  h.0 ∙ sym (ap (λ t. t +ℚ b *ℚ c) e ∙ zero-add (b *ℚ c)),
  (h.1, subst (λ t. IsNarrowSum t (b *ℚ c)) (sym e) (narrow_sum_comm (b *ℚ c) zero_ℚ (narrow_sum-zero (b *ℚ c) h.1))),
)
