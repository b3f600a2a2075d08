-- The order and the signs of pairs are those of their values.
use Rattle.std.proofs.Common.{◌≡◌, ◌↔◌, ℕ, ◌<◌, ◌≤◌, ◌+◌, sym, ap, ℤ, pos, ◌*ℤ◌, ◌<ℤ◌, lit<, arith}
use Rattle.std.proofs.lemmas.Int.{ints}
use Rattle.std.specs.Prelude.{int_le, IsTrue}
use borrow.Author.Differences.{up, down, true_is_le, below_in}
use Rattle.fractions.specs.Rational.{ℚ, frac, zero_ℚ, ◌<ℚ◌}
use Rattle.fractions.proofs.Order.{le_of_lt, ne_of_lt}
use Rattle.fractions.proofs.Tests.{lt_iff}
use Rattle.fractions.proofs.Field.{school_rules}
use Rattle.frac128.specs.Pairs.{Pair, IsNarrowPair, IsBelow}
use Rattle.std.specs.Ordering.{MatchOrdering}
use Rattle.std.specs.declared.cmp.Ordering.{Ordering}
use Rattle.std.specs.declared.cmp.Ordering.TheVariants.{Less, Equal, Greater}
use Rattle.frac128.specs.Values.{value}
use Rattle.frac128.proofs.Values.{zero_is}

-- ---- the order
pub below_value : (g h : Pair) → IsNarrowPair g → IsNarrowPair h → IsBelow g h → value g <ℚ value h
below_value g h ng nh b =
    (lt_iff (value g) (value h)).1 (λ k. not_both (h.num *ℤ pos g.den) (g.num *ℤ pos h.den) b ((school_rules.at_most h.num g.num h.den g.den nh.reduced.positive ng.reduced.positive).0 k))
  where
    not_both : (a b : ℤ) → b <ℤ a → IsTrue (int_le a b) → ⊥
    not_both a b h k = omega (arith, ints)

pub not_below_same : (x y : ℚ) → x ≡ y → x <ℚ y → ⊥
not_below_same x y e h = ne_of_lt x y h e

pub not_below_above : (x y : ℚ) → y <ℚ x → x <ℚ y → ⊥
not_below_above x y h k = (lt_iff x y).0 k (le_of_lt y x h)

pub order_of : (g h : Pair) (o : Ordering) → IsNarrowPair g → IsNarrowPair h → MatchOrdering o (IsBelow g h) (g ≡ h) (IsBelow h g)
    → MatchOrdering o (value g <ℚ value h) (value g ≡ value h) (value h <ℚ value g)
order_of g h Less ng nh m = below_value g h ng nh m
order_of g h Equal ng nh m = ap value m
order_of g h Greater ng nh m = below_value h g nh ng m

-- ---- the sign is the numerator's
not_at_most : (a b : ℤ) → ¬ (IsTrue (int_le a b)) ↔ (b <ℤ a)
not_at_most a b = (λ n. strict (λ k. n (sym (true_is_le a b k))), λ h k. both h k)
  where
    strict : ¬ (up a + down b ≤ up b + down a) → b <ℤ a
    strict n = below_in b a (omega arith)

    both : b <ℤ a → IsTrue (int_le a b) → ⊥
    both h k = omega (arith, ints)

below_test : (n m : ℤ) (d e : ℕ) → 0 < d → 0 < e → (frac n d <ℚ frac m e) ↔ ((n *ℤ pos e) <ℤ (m *ℤ pos d))
below_test n m d e hd he =
    let a = school_rules.at_most m n e d he hd in
    let t = not_at_most (m *ℤ pos d) (n *ℤ pos e) in
    let l = lt_iff (frac n d) (frac m e) in (
      λ h. t.0 (λ k. l.0 h (a.1 k)),
      λ h. l.1 (λ k. t.1 h (a.0 k)),
    )

pub below_zero : (f : Pair) → 0 < f.den → (value f <ℚ zero_ℚ) ↔ (f.num <ℤ pos 0)
below_zero f h =
    let t = below_test f.num (pos 0) f.den 1 h (lit< tt) in
    rw zero_is (λ k. omega (arith, ints, t.0 k), λ k. t.1 (omega (arith, ints)))

pub above_zero : (f : Pair) → 0 < f.den → (zero_ℚ <ℚ value f) ↔ (pos 0 <ℤ f.num)
above_zero f h =
    let t = below_test (pos 0) f.num 1 f.den (lit< tt) h in
    rw zero_is (λ k. omega (arith, ints, t.0 k), λ k. t.1 (omega (arith, ints)))

pub same_zero : (f : Pair) → 0 < f.den → (value f ≡ zero_ℚ) ↔ (f.num ≡ pos 0)
same_zero f h =
    let t = school_rules.same f.num (pos 0) f.den 1 h (lit< tt) in
    rw zero_is (λ k. omega (arith, ints, t.0 k), λ k. t.1 (omega (arith, ints, k)))
