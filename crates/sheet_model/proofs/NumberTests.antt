-- What the tests of numbers tell.
use Rattle.std.proofs.Common.{◌≡◌, ◌↔◌, refl, sym, ap, subst, Bool, true, false, not, ◌&&◌, T, ℤ, pos}
use Rattle.std.specs.Prelude.{IsTrue, ◌<ℤ◌}
use Rattle.std.specs.Cmp.{IsTotalOrder}
use Rattle.std.specs.declared.cmp.Ordering.{Ordering}
use Rattle.std.specs.declared.cmp.Ordering.TheVariants.{Less, Equal, Greater}
use Rattle.std.specs.Ordering.{MatchOrdering, ordering_reverse}
use Rattle.fractions.specs.Rational.{ℚ, zero_ℚ, numerator, le_ℚ, eq_ℚ, ◌≤ℚ◌, ◌<ℚ◌}
use Rattle.fractions.proofs.Tests.{is_so, le_iff}
use Rattle.fractions.proofs.Order.{eq_iff, le_refl, le_of_lt, lt_of_lt_of_le}
use Rattle.fractions.proofs.Parts.{frac_self}
use Rattle.frac128.specs.Values.{pair_of}
use Rattle.frac128.proofs.Values.{reduced_pair}
use Rattle.frac128.proofs.ValueOrder.{below_zero}
use Rattle.sheet_model.specs.Tests.{is_zero, is_negative, number_cmp}

-- two tests of one fact agree
pub same_test : (a b : Bool) (P : Type 0) → IsTrue a ↔ P → IsTrue b ↔ P → a ≡ b
same_test true b P f g = sym (g.1 (f.0 refl))
same_test false true P f g = f.1 (g.0 refl)
same_test false false P f g = refl

-- what is_zero tells
zero_iff : (x : ℚ) → IsTrue (is_zero x) ↔ (x ≡ zero_ℚ)
unfolding eq_ℚ
zero_iff x = eq_iff x zero_ℚ

-- a test for 0 is is_zero
pub is_zero-told : (b : Bool) (x : ℚ) → IsTrue b ↔ (x ≡ zero_ℚ) → b ≡ is_zero x
is_zero-told b x h = same_test b (is_zero x) (x ≡ zero_ℚ) h (zero_iff x)

-- what is_negative tells
negative_iff : (x : ℚ) → IsTrue (is_negative x) ↔ (x <ℚ zero_ℚ)
negative_iff x = (λ e. record { below = (is_so (is_negative x)).1 e }, λ h. (is_so (is_negative x)).0 h.below)

-- a test for numbers below 0 is is_negative
pub is_negative-told : (b : Bool) (x : ℚ) → IsTrue b ↔ (x <ℚ zero_ℚ) → b ≡ is_negative x
is_negative-told b x h = same_test b (is_negative x) (x <ℚ zero_ℚ) h (negative_iff x)

-- a number is below 0 where its numerator is
pub negative_numerator : (x : ℚ) → numerator x <ℤ pos 0 → x <ℚ zero_ℚ
negative_numerator x h = subst (λ y. y <ℚ zero_ℚ) (frac_self x) ((below_zero (pair_of x) (reduced_pair x).positive).1 h)

-- two tests, one after the other
pub both-told : (p q a b : Bool) → p ≡ a → q ≡ b → p ≡ true → q ≡ (a && b)
both-told p q true b e f h = f
both-told p q false b e f h = cc

-- the first of two tests fails
pub first-false : (p a b : Bool) → p ≡ a → p ≡ false → p ≡ (a && b)
first-false p true b e h = cc
first-false p false b e h = h

-- what is no negative power of 0
pub no_zero_below_zero : (x y : ℚ) (e : ℤ) → e ≡ numerator y → (is_zero x && is_negative y) ≡ false → e <ℤ pos 0 → x ≡ zero_ℚ → ⊥
no_zero_below_zero x y e same h low zero =
    let z : is_zero x ≡ true = (zero_iff x).1 zero in
    let n : is_negative y ≡ true = (negative_iff y).1 (negative_numerator y (subst (λ k. k <ℤ pos 0) same low)) in
    let both : (is_zero x && is_negative y) ≡ true = rw (z, n) refl in
    cc

-- ---- the order
-- a test whose denial holds
not_so : (b : Bool) → T (not b) → b ≡ false
not_so true h = absurd h
not_so false h = refl

-- what is at most another passes the test
at_most : (x y : ℚ) → x ≤ℚ y → le_ℚ x y ≡ true
at_most x y h = (le_iff x y).1 h

-- what is above another fails it
above : (x y : ℚ) → y <ℚ x → le_ℚ x y ≡ false
above x y h = not_so (le_ℚ x y) h.below

-- an order that says which number is less is number_cmp
pub number_cmp-told : (o : Ordering) (x y : ℚ) → MatchOrdering o (x <ℚ y) (x ≡ y) (y <ℚ x) → o ≡ number_cmp x y
number_cmp-told Less x y h = rw (at_most x y (le_of_lt x y h), above y x h) refl
number_cmp-told Equal x y h = rw (at_most x y (subst (λ z. x ≤ℚ z) h (le_refl x)), at_most y x (subst (λ z. z ≤ℚ x) h (le_refl x))) refl
number_cmp-told Greater x y h = rw (above x y h) refl

-- the order by the two tests
by_tests : (a b : Bool) (x y : ℚ) → le_ℚ x y ≡ a → le_ℚ y x ≡ b → MatchOrdering (number_cmp x y) (x <ℚ y) (x ≡ y) (y <ℚ x)
unfolding eq_ℚ
by_tests true true x y e h = rw (e, h) ((eq_iff x y).0 (rw (e, h) refl))
by_tests true false x y e h = rw (e, h) (record { below = subst (λ (b : Bool). T (not b)) (sym h) tt })
by_tests false b x y e h = rw e (record { below = subst (λ (b : Bool). T (not b)) (sym e) tt })

-- what number_cmp tells
pub number_order : (x y : ℚ) → MatchOrdering (number_cmp x y) (x <ℚ y) (x ≡ y) (y <ℚ x)
number_order x y = by_tests (le_ℚ x y) (le_ℚ y x) x y refl refl

-- an order turned round
turned_round : (o : Ordering) (x y : ℚ) → MatchOrdering o (y <ℚ x) (y ≡ x) (x <ℚ y) → MatchOrdering (ordering_reverse o) (x <ℚ y) (x ≡ y) (y <ℚ x)
turned_round Less x y h = h
turned_round Equal x y h = sym h
turned_round Greater x y h = h

-- what Less tells
is_less : (o : Ordering) (x y : ℚ) → o ≡ Less → MatchOrdering o (x <ℚ y) (x ≡ y) (y <ℚ x) → x <ℚ y
is_less Less x y e h = h
is_less Equal x y e h = cc
is_less Greater x y e h = cc

-- what Equal tells
is_equal : (o : Ordering) (x y : ℚ) → o ≡ Equal → MatchOrdering o (x <ℚ y) (x ≡ y) (y <ℚ x) → x ≡ y
is_equal Less x y e h = absurd (cc)
is_equal Equal x y e h = h
is_equal Greater x y e h = absurd (cc)

-- number_cmp is a total order
pub number_cmp_total : IsTotalOrder number_cmp
number_cmp_total = record {
  antisymm = λ x y. sym (number_cmp-told (ordering_reverse (number_cmp y x)) x y (turned_round (number_cmp y x) x y (number_order y x)));
  trans = λ x y z p q. sym (number_cmp-told Less x z (lt_of_lt_of_le x y z (is_less _ x y p (number_order x y)) (le_of_lt y z (is_less _ y z q (number_order y z)))));
  congr = λ x y z p. ap (λ w. number_cmp w z) (is_equal _ x y p (number_order x y));
}
