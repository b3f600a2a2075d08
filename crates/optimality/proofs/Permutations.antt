-- N different whole numbers from 1 to N are all of these numbers.
use Rattle.std.proofs.Common.{◌≡◌, ◌⊎◌, inl, inr, ℕ, ◌+◌, ◌-◌, ◌<◌, ◌≤◌, sym, ap, ◌∙◌, subst, length, arith, ℤ, pos, negsuc}
use Rattle.std.specs.Prelude.{◌≤ℤ◌}
use Rattle.std.proofs.lemmas.Int.{ints}
use borrow.Author.Differences.{at_most_in}
use Rattle.fractions.specs.Rational.{ℚ, ◌≤ℚ◌, one_ℚ, numerator}
use Rattle.fractions.specs.Whole.{whole_ℚ}
use Rattle.fractions.proofs.Parts.{frac_self}
use Rattle.fractions.proofs.Whole.{whole-le, whole-one, denominator-whole}
use Rattle.fractions.specs.Rational.{frac}
use Rattle.optimality.specs.Optimal.{IsWhole}
use Rattle.optimality.specs.Groups.{held_at, AreDifferent, HoldsEachOnce}
use Rattle.optimality.specs.EachOnce.{AreInRange, DifferentInRangeIsEachOnce}
use Rattle.optimality.proofs.Pigeons.{all_there}

whole_is : (x : ℚ) → IsWhole x → x ≡ whole_ℚ (numerator x)
whole_is x e = sym (frac_self x) ∙ ap (frac (numerator x)) e

-- a whole number from 1 to n
record InRange (n : ℕ) (x : ℚ) : Type 0 where
  pub number : ℕ
  pub least : 1 ≤ number
  pub greatest : number ≤ n
  pub is : x ≡ whole_ℚ (pos number)

natural : (n : ℕ) (x : ℚ) (z : ℤ) → x ≡ whole_ℚ z → pos 1 ≤ℤ z → z ≤ℤ pos n → InRange n x
natural n x (pos k) e l g = record { number = k; least = omega (arith, ints); greatest = omega (arith, ints); is = e }
natural n x (negsuc k) e l g = absurd (omega (arith, ints))

in_range : (n : ℕ) (x : ℚ) → IsWhole x → one_ℚ ≤ℚ x → x ≤ℚ whole_ℚ (pos n) → InRange n x
in_range n x w l g =
    let e = whole_is x w in
    natural n x (numerator x) e
    ((whole-le (pos 1) (numerator x)).0 (subst (λ t. t ≤ℚ whole_ℚ (numerator x)) (sym whole-one) (subst (λ t. one_ℚ ≤ℚ t) e l)))
    ((whole-le (numerator x) (pos n)).0 (subst (λ t. t ≤ℚ whole_ℚ (pos n)) e g))

same_pos : {a b : ℕ} → pos a ≡ pos b → a ≡ b
same_pos e = cc

from_one : {a b : ℕ} → 1 ≤ a → 1 ≤ b → a - 1 ≡ b - 1 → a ≡ b
from_one h k e = omega (arith, h, k, e)

-- the number that a place holds, less 1
data Place (n : ℕ) (x : ℕ → ℚ) (i : ℕ) : Type 0 where
  inside : InRange n (x i) → Place n x i
  past : n ≤ i → Place n x i

all_held : (n : ℕ) (x : ℕ → ℚ) → ((i : ℕ) → i < n → InRange n (x i)) → ((i k : ℕ) → i < n → k < n → x i ≡ x k → i ≡ k) → (v : ℕ) → 1 ≤ v → v ≤ n → (i : ℕ) × (i < n) × (x i ≡ whole_ℚ (pos v))
all_held n x r o v l g =
    let a = all_there n place (v - 1) (λ i h. below i h (place_of i)) (λ i k h j q. one i k h j (place_of i) (place_of k) q) (omega (arith, l, g)) in
    (a.0, a.1, found a.0 a.1 (place_of a.0) a.2)
  where
    split : (i n : ℕ) → (i < n) ⊎ (n ≤ i)
    split i n = grind arith

    place_of : (i : ℕ) → Place n x i
    place_of i = elim (split i n) [ inl h ↦ inside (r i h) | inr h ↦ past h ]

    value : {i : ℕ} → Place n x i → ℕ
    value (inside h) = h.number - 1
    value (past h) = 0

    place : ℕ → ℕ
    place i = value (place_of i)

    below : (i : ℕ) → i < n → (p : Place n x i) → value p < n
    below i h (inside q) = let a : 1 ≤ q.number = q.least in let b : q.number ≤ n = q.greatest in omega (arith, a, b)
    below i h (past q) = absurd (omega (arith, h, q))

    one : (i k : ℕ) → i < n → k < n → (p : Place n x i) (q : Place n x k) → value p ≡ value q → i ≡ k
    one i k h j (inside p) (inside q) e = o i k h j (p.is ∙ ap (λ t. whole_ℚ (pos t)) (from_one p.least q.least e) ∙ sym q.is)
    one i k h j (inside p) (past q) e = absurd (omega (arith, j, q))
    one i k h j (past p) q e = absurd (omega (arith, h, p))

    found : (i : ℕ) → i < n → (p : Place n x i) → value p ≡ v - 1 → x i ≡ whole_ℚ (pos v)
    found i h (inside p) e = p.is ∙ ap (λ t. whole_ℚ (pos t)) (from_one p.least l e)
    found i h (past p) e = absurd (omega (arith, h, p))

pub different_in_range_is_each_once : DifferentInRangeIsEachOnce
different_in_range_is_each_once a g = (there, back)
  where
    there : HoldsEachOnce a g → AreInRange a g × AreDifferent a g
    there h = (
      record {
        whole = λ i l. let w = h.within i l in subst IsWhole (sym w.3) (denominator-whole (pos w.0));
        least = λ i l. let w = h.within i l in subst (λ t. one_ℚ ≤ℚ t) (sym w.3) (subst (λ t. t ≤ℚ whole_ℚ (pos w.0)) whole-one ((whole-le (pos 1) (pos w.0)).1 (at_most_in (pos 1) (pos w.0) (up_to w.1))));
        greatest = λ i l. let w = h.within i l in subst (λ t. t ≤ℚ whole_ℚ (pos (length g))) (sym w.3) ((whole-le (pos w.0) (pos (length g))).1 (at_most_in (pos w.0) (pos (length g)) (up_to w.2)));
      },
      h.once,
    )
      where
        up_to : {p q : ℕ} → p ≤ q → borrow.Author.Differences.up (pos p) + borrow.Author.Differences.down (pos q) ≤ borrow.Author.Differences.up (pos q) + borrow.Author.Differences.down (pos p)
        up_to l = omega (arith, l)

    ranges : AreInRange a g → (i : ℕ) → i < length g → InRange (length g) (held_at a g i)
    ranges r i l = in_range (length g) (held_at a g i) (r.whole i l) (r.least i l) (r.greatest i l)

    back : AreInRange a g × AreDifferent a g → HoldsEachOnce a g
    back h = record {
      within = λ i l. let r = ranges h.0 i l in (r.number, r.least, r.greatest, r.is);
      each = all_held (length g) (held_at a g) (ranges h.0) h.1.apart;
      once = h.1;
    }
