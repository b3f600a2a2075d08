-- Sums and products of whole numbers, which are pairs over 1.
use Rattle.std.proofs.Common.{◌≡◌, ◌↔◌, ℕ, ◌*◌, ◌/◌, refl, sym, subst, arith, lit<, ℤ, pos, ◌+ℤ◌, ◌*ℤ◌}
use Rattle.std.proofs.lemmas.Int.{ints}
use Rattle.std.proofs.Math.Nat.{eq-one_of_dvd-one, one-dvd}
use Rattle.frac128.specs.Narrow.{IsNarrowWhole}
use Rattle.frac128.specs.Pairs.{Pair, IsNarrowPair, IsReduced, IsSame, HasNarrow, HasNarrowSum, product, sum}
use Rattle.frac128.proofs.Lowest.{is_narrow}
use Rattle.frac128.proofs.Readings.{narrow_over_one}

reduced_over_one : (z : ℤ) → IsReduced (record { num = z; den = 1 })
reduced_over_one z = record { positive = lit< tt; coprime = λ d a b. eq-one_of_dvd-one b }

over_one : (x : Pair) (z : ℤ) → x.den ≡ 1 → x.num ≡ z → HasNarrow x ↔ IsNarrowWhole z
over_one x z d e = (
  λ w. (is_narrow (record { num = z; den = 1 }) x (omega (arith, d)) (reduced_over_one z) same w).num,
  λ n. (record { num = z; den = 1 }, narrow_over_one z n, same),
)
  where
    same : IsSame (record { num = z; den = 1 }) x
    same = (λ i. sym e i *ℤ pos (d i))

pub narrow_product_over_one : (x y : Pair) → IsNarrowPair x → IsNarrowPair y → x.den ≡ 1 → y.den ≡ 1 → IsNarrowWhole (x.num *ℤ y.num) ↔ HasNarrow (product x y)
narrow_product_over_one x y p q d e = let i = over_one (product x y) (x.num *ℤ y.num) (λ i. d i * e i) refl in (i.1, i.0)

at_one : (g : ℕ) (x y : Pair) → x.den ≡ 1 → y.den ≡ 1 → g ≡ 1 → (x.num *ℤ pos (y.den / g) ≡ x.num) × (y.num *ℤ pos (x.den / g) ≡ y.num) × (x.num *ℤ pos (y.den / g) +ℤ y.num *ℤ pos (x.den / g) ≡ x.num +ℤ y.num)
at_one g x y d e f = rw (d, e, f) (omega (arith, ints))

pub narrow_sum_over_one : (x y : Pair) → IsNarrowPair x → IsNarrowPair y → x.den ≡ 1 → y.den ≡ 1 → IsNarrowWhole (x.num +ℤ y.num) ↔ HasNarrowSum x y
narrow_sum_over_one x y p q d e =
    let total : (sum x y).num ≡ x.num +ℤ y.num = rw (d, e) (omega (arith, ints)) in
    let i = over_one (sum x y) (x.num +ℤ y.num) (λ i. d i * e i) total in (
      λ n. (
        1,
        record {
          common = rw (d, e) (one-dvd 1, one-dvd 1, λ k a b. a);
          left = subst IsNarrowWhole (sym (at_one 1 x y d e refl).0) p.num;
          right = subst IsNarrowWhole (sym (at_one 1 x y d e refl).1) q.num;
          total = subst IsNarrowWhole (sym (at_one 1 x y d e refl).2) n;
          lowest = i.1 n;
        },
      ),
      λ s. i.0 s.1.lowest,
    )
