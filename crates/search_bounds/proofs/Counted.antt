-- The whole numbers between two numbers are as many as are counted.
use Rattle.std.proofs.Common.{◌≡◌, ℕ, ◌<◌, sym, subst, arith, ℤ, pos, negsuc, neg_ℤ, ◌+ℤ◌}
use Rattle.std.specs.Prelude.{◌≤ℤ◌}
use Rattle.std.proofs.lemmas.Int.{ints}
use borrow.Author.Differences.{at_most_in}
use Rattle.fractions.specs.Rational.{ℚ, neg_ℚ, ◌≤ℚ◌}
use Rattle.fractions.specs.Whole.{whole_ℚ}
use Rattle.fractions.specs.Floor.{floor_ℚ}
use Rattle.fractions.proofs.Floor.{floor_is_greatest}
use Rattle.fractions.proofs.Order.{le_trans, neg_le}
use Rattle.fractions.proofs.Laws.{neg-neg}
use Rattle.fractions.proofs.Whole.{whole-le, whole-neg}
use Rattle.search_bounds.specs.Choices.{or_zero}
use Rattle.search_bounds.specs.Laws.{WholesAreCounted, first_whole}
use Rattle.search_bounds.proofs.Wholes.{zero_of}

-- below the count, by whole numbers
below_count : (n : ℤ) (k : ℕ) → k < or_zero n → (pos k +ℤ pos 1) ≤ℤ n
below_count (pos n) k h = at_most_in _ _ (omega (arith, ints))
below_count (negsuc n) k h = absurd (omega (arith, h))

count_above : (n : ℤ) (k : ℕ) → (pos k +ℤ pos 1) ≤ℤ n → k < or_zero n
count_above (pos n) k h = omega (arith, ints)
count_above (negsuc n) k h = absurd (omega (arith, ints))

-- the first one
first_is : (a : ℚ) → a ≤ℚ whole_ℚ (first_whole a)
first_is a = subst (λ t. a ≤ℚ t) (sym (whole-neg (floor_ℚ (neg_ℚ a)))) (subst (λ t. t ≤ℚ neg_ℚ (whole_ℚ (floor_ℚ (neg_ℚ a)))) (neg-neg a) (neg_le _ _ (floor_is_greatest (neg_ℚ a)).not_above))

up_by : (z : ℤ) (k : ℕ) → z ≤ℤ (z +ℤ pos k)
up_by z k = at_most_in _ _ (omega (arith, ints))

moved : (k : ℕ) (g h : ℤ) → (pos k +ℤ pos 1) ≤ℤ ((g +ℤ h) +ℤ pos 1) → (neg_ℤ h +ℤ pos k) ≤ℤ g
moved k g h l = at_most_in _ _ (omega (arith, ints))

back : (z g h : ℤ) (k : ℕ) → pos k ≡ z +ℤ h → z ≤ℤ g → (pos k +ℤ pos 1) ≤ℤ ((g +ℤ h) +ℤ pos 1)
back z g h k e l = at_most_in _ _ (omega (arith, ints))

from_first : (z h : ℤ) (k : ℕ) → pos k ≡ z +ℤ h → z ≡ neg_ℤ h +ℤ pos k
from_first z h k e = omega (arith, ints)

not_negative : (z h : ℤ) → neg_ℤ z ≤ℤ h → pos 0 ≤ℤ (z +ℤ h)
not_negative z h l = at_most_in _ _ (omega (arith, ints))

pub wholes_are_counted : WholesAreCounted
wholes_are_counted = record {
  between = λ a b k h. (
    le_trans _ _ _ (first_is a) ((whole-le _ _).1 (up_by (first_whole a) k)),
    le_trans _ _ _ ((whole-le _ _).1 (moved k (floor_ℚ b) (floor_ℚ (neg_ℚ a)) (below_count _ k h))) (floor_is_greatest b).not_above,
  );
  all = λ a b z l g.
      let low : neg_ℤ z ≤ℤ floor_ℚ (neg_ℚ a) = (floor_is_greatest (neg_ℚ a)).greatest (neg_ℤ z) (subst (λ t. t ≤ℚ neg_ℚ a) (sym (whole-neg z)) (neg_le _ _ l)) in
      let high : z ≤ℤ floor_ℚ b = (floor_is_greatest b).greatest z g in
      let e = zero_of (z +ℤ floor_ℚ (neg_ℚ a)) (not_negative z (floor_ℚ (neg_ℚ a)) low) in
      (or_zero (z +ℤ floor_ℚ (neg_ℚ a)), count_above _ _ (back z (floor_ℚ b) (floor_ℚ (neg_ℚ a)) _ e high), from_first z (floor_ℚ (neg_ℚ a)) _ e);
}
