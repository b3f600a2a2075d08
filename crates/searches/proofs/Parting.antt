-- A split at a decision that holds the number of another one of its group leaves a whole value on either side.
use Rattle.std.proofs.Common.{◌≡◌, ◌≢◌, inl, inr, ℕ, sym, ap, ◌∙◌, subst, List, Some, arith, ℤ, pos, ◌+ℤ◌}
use Rattle.std.specs.Prelude.{◌<ℤ◌}
use Rattle.std.proofs.lemmas.Int.{ints}
use borrow.Author.Differences.{at_most_in}
use Rattle.fractions.specs.Rational.{ℚ, ◌≤ℚ◌, ◌<ℚ◌}
use Rattle.fractions.specs.Vectors.{at}
use Rattle.fractions.specs.Whole.{whole_ℚ}
use Rattle.fractions.proofs.Order.{le_antisymm, lt_of_le_of_ne}
use Rattle.fractions.proofs.Tests.{le_or_lt}
use Rattle.fractions.proofs.Whole.{whole-le, whole-lt}
use Rattle.linear_models.specs.Box.{Box, InBox, bound_at}
use Rattle.searches.specs.Alike.{BoundsDiffer, FloorIs, before_number, at_number, HasTwoBounds}

some_is : {x y : ℚ} → Some x ≡ Some y → x ≡ y
some_is e = cc

below_next : (a f : ℤ) → whole_ℚ a <ℚ whole_ℚ (f +ℤ pos 1) → whole_ℚ a ≤ℚ whole_ℚ f
below_next a f h = let k : a <ℤ (f +ℤ pos 1) = (whole-lt a (f +ℤ pos 1)).0 h in (whole-le a f).1 (at_most_in a f (omega (arith, ints)))

next_below : (f b : ℤ) → whole_ℚ f <ℚ whole_ℚ b → whole_ℚ (f +ℤ pos 1) ≤ℚ whole_ℚ b
next_below f b h = let k : f <ℤ b = (whole-lt f b).0 h in (whole-le (f +ℤ pos 1) b).1 (at_most_in (f +ℤ pos 1) b (omega (arith, ints)))

-- the floor isn't below the decision's least value, and the next whole number isn't above its greatest one
pub record LeavesBoth (box : Box) (c : ℕ) (f : ℤ) : Type 0 where
  pub low : (b : ℚ) → bound_at box.least c ≡ Some b → b ≤ℚ whole_ℚ f
  pub high : (b : ℚ) → bound_at box.greatest c ≡ Some b → whole_ℚ (f +ℤ pos 1) ≤ℚ b

pub parted : (box : Box) (x : List ℚ) (c : ℕ) (f : ℤ) → InBox box x → HasTwoBounds box c → BoundsDiffer box c → FloorIs box c (at x c) f → LeavesBoth box c f
parted box x c f i t d (before_number b g p l q) = record {
  low = λ o r. subst (λ o. o ≤ℚ whole_ℚ f) (some_is (sym t.least ∙ r)) (below_next t.low f (subst (λ y. y <ℚ whole_ℚ (f +ℤ pos 1)) (some_is (sym p ∙ t.least)) (subst (λ y. b <ℚ y) (sym q) l)));
  high = λ o r. subst (λ y. y ≤ℚ o) (sym q) (i.greatest c o r);
}
parted box x c f i t d (at_number b g p n q) = record {
  low = λ o r. subst (λ y. o ≤ℚ y) (sym q) (i.least c o r);
  high = λ o r. subst (λ o. whole_ℚ (f +ℤ pos 1) ≤ℚ o) (some_is (sym t.greatest ∙ r)) (next_below f t.high (lt_of_le_of_ne _ _ (subst (λ y. y ≤ℚ whole_ℚ t.high) (sym q) (i.greatest c (whole_ℚ t.high) t.greatest)) at_top));
}
  where
    -- the number is the lower bound
    at_bottom : at x c ≡ b
    at_bottom = elim (le_or_lt (at x c) b) [ inl h ↦ le_antisymm _ _ h (i.least c b p) | inr h ↦ absurd (n h) ]

    at_top : whole_ℚ f ≢ whole_ℚ t.high
    at_top k = d (p ∙ ap Some (sym at_bottom ∙ sym q ∙ k) ∙ sym t.greatest)
