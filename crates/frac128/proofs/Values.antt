-- The operations on pairs are those on their values.
use Rattle.std.proofs.Common.{◌≡◌, ◌≢◌, ◌↔◌, ℕ, ◌/◌, ◌<◌, refl, sym, ap, ap₂, ◌∙◌, subst, ℤ, pos, negsuc, neg_ℤ, ◌+ℤ◌, ◌*ℤ◌, ◌^◌, arith, mul-pos}
use Rattle.std.proofs.lemmas.Int.{ints}
use Rattle.std.proofs.lemmas.Nat.Gcd.{same_from_IsGcd}
use Rattle.std.specs.Int.{IsGcd}
use Rattle.fractions.specs.Gcd.{gcd}
use Rattle.fractions.specs.Rational.{ℚ, frac, numerator, denominator, ◌+ℚ◌, ◌*ℚ◌, neg_ℚ, inv_ℚ, zero_ℚ, computed}
use Rattle.fractions.proofs.Gcd.{gcd_is}
use Rattle.fractions.proofs.Parts.{frac_same, frac-lowest, frac_rep, lowest_is, is_lowest_of}
use Rattle.fractions.proofs.School.{frac-add, frac-mul, frac-neg}
use Rattle.fractions.proofs.Field.{school_rules}
use Rattle.frac128.specs.Narrow.{IsNarrowWhole, IsNarrow, IsNarrowSum}
use Rattle.frac128.specs.Pairs.{Pair, IsNarrowPair, IsReduced, IsSame, HasNarrow, HasNarrowSum, product, sum, reciprocal, turned_over}
use Rattle.frac128.specs.Values.{pair_of, value, lowest}
use Rattle.frac128.proofs.Coprime.{coprime_of_IsGcd}

-- ---- a pair in lowest terms is the pair of its value, and the pair of a value is in lowest terms
pub num_back : (f : Pair) → IsReduced f → numerator (value f) ≡ f.num
num_back f h = (frac-lowest f.num f.den (lowest f h)).0

pub den_back : (f : Pair) → IsReduced f → denominator (value f) ≡ f.den
den_back f h = (frac-lowest f.num f.den (lowest f h)).1

pub reduced_pair : (x : ℚ) → IsReduced (pair_of x)
reduced_pair x =
    let l = lowest_is (numerator x) (denominator x) (is_lowest_of x) in
    record { positive = l.0; coprime = coprime_of_IsGcd _ _ (subst (IsGcd _ _) l.1 (gcd_is _ _)) }

pub sum_value : (f g h : Pair) → IsNarrowPair f → IsNarrowPair g → IsNarrowPair h → IsSame f (sum g h) → value f ≡ value g +ℚ value h
sum_value f g h nf ng nh e =
    frac_same f.num (sum g h).num f.den (sum g h).den nf.reduced.positive (mul-pos ng.reduced.positive nh.reduced.positive) e
    ∙ sym (frac-add g.num h.num g.den h.den ng.reduced.positive nh.reduced.positive)

pub product_value : (f g h : Pair) → IsNarrowPair f → IsNarrowPair g → 0 < h.den → IsSame f (product g h) → value f ≡ value g *ℚ value h
product_value f g h nf ng ph e =
    frac_same f.num (product g h).num f.den (product g h).den nf.reduced.positive (mul-pos ng.reduced.positive ph) e
    ∙ sym (frac-mul g.num h.num g.den h.den ng.reduced.positive ph)

pub neg_value : (g : Pair) → IsNarrowPair g → frac (neg_ℤ g.num) g.den ≡ neg_ℚ (value g)
neg_value g ng = sym (frac-neg g.num g.den ng.reduced.positive)

-- ---- narrowness is that of the pairs
pub narrow_value : (f : Pair) → IsNarrowPair f → IsNarrow (value f)
narrow_value f h = record { num = subst IsNarrowWhole (sym (num_back f h.reduced)) h.num; den = subst (λ n. n < 2 ^ 127) (sym (den_back f h.reduced)) h.den }

pub narrow_back : (f : Pair) → IsReduced f → IsNarrow (value f) → IsNarrowPair f
narrow_back f r h = record { num = subst IsNarrowWhole (num_back f r) h.num; den = subst (λ n. n < 2 ^ 127) (den_back f r) h.den; reduced = r }

pub has_narrow : (x : Pair) → 0 < x.den → HasNarrow x ↔ IsNarrow (value x)
has_narrow x h = (
  λ w. subst IsNarrow (frac_same w.0.num x.num w.0.den x.den w.1.reduced.positive h w.2) (narrow_value w.0 w.1),
  λ n. (pair_of (value x), record { num = n.num; den = n.den; reduced = reduced_pair (value x) }, (frac_rep x.num x.den h).scaled),
)

pub narrow_sum : (g h : Pair) → IsNarrowPair g → IsNarrowPair h → HasNarrowSum g h ↔ IsNarrowSum (value g) (value h)
narrow_sum g h ng nh =
    let a = num_back g ng.reduced in
    let b = den_back g ng.reduced in
    let c = num_back h nh.reduced in
    let d = den_back h nh.reduced in
    let same : gcd (denominator (value g)) (denominator (value h)) ≡ gcd g.den h.den = ap₂ gcd b d in
    let low = has_narrow (sum g h) (mul-pos ng.reduced.positive nh.reduced.positive) in
    let e : value (sum g h) ≡ value g +ℚ value h = sym (frac-add g.num h.num g.den h.den ng.reduced.positive nh.reduced.positive) in (
      λ s. let k : gcd (denominator (value g)) (denominator (value h)) ≡ s.0 = same ∙ same_from_IsGcd g.den h.den _ _ (gcd_is g.den h.den) s.1.common in
          record {
            left = subst IsNarrowWhole (λ i. sym a i *ℤ pos (sym d i / sym k i)) s.1.left;
            right = subst IsNarrowWhole (λ i. sym c i *ℤ pos (sym b i / sym k i)) s.1.right;
            total = subst IsNarrowWhole (λ i. sym a i *ℤ pos (sym d i / sym k i) +ℤ sym c i *ℤ pos (sym b i / sym k i)) s.1.total;
            lowest = subst IsNarrow e (low.0 s.1.lowest);
          },
      λ s. (
        gcd g.den h.den,
        record {
          common = gcd_is g.den h.den;
          left = subst IsNarrowWhole (λ i. a i *ℤ pos (d i / same i)) s.left;
          right = subst IsNarrowWhole (λ i. c i *ℤ pos (b i / same i)) s.right;
          total = subst IsNarrowWhole (λ i. a i *ℤ pos (d i / same i) +ℤ c i *ℤ pos (b i / same i)) s.total;
          lowest = low.1 (subst IsNarrow (sym e) s.lowest);
        },
      ),
    )

pub narrow_product : (g h : Pair) → IsNarrowPair g → IsNarrowPair h → HasNarrow (product g h) ↔ IsNarrow (value g *ℚ value h)
narrow_product g h ng nh =
    subst (λ x. HasNarrow (product g h) ↔ IsNarrow x) (sym (frac-mul g.num h.num g.den h.den ng.reduced.positive nh.reduced.positive))
    (has_narrow (product g h) (mul-pos ng.reduced.positive nh.reduced.positive))

-- ---- reciprocals
pub zero_is : zero_ℚ ≡ frac (pos 0) 1
unfolding computed
zero_is = refl

pub not_zero : (h : Pair) → IsNarrowPair h → value h ≢ zero_ℚ → h.num ≢ pos 0
not_zero h nh n e = n (frac_same h.num (pos 0) h.den 1 nh.reduced.positive (omega arith) (omega (arith, ints, e)) ∙ sym zero_is)

positive : (n : ℕ) → ¬ (n ≡ 0) → 0 < n
positive n f = omega arith

pub reciprocal_value : (h : Pair) → IsNarrowPair h → h.num ≢ pos 0 → value (reciprocal h) ≡ inv_ℚ (value h)
reciprocal_value h nh n = cases h.num n
  where
    cases : (z : ℤ) → z ≢ pos 0 → frac (turned_over z h.den).num (turned_over z h.den).den ≡ inv_ℚ (frac z h.den)
    cases (pos n) f = sym (school_rules.inverse n h.den nh.reduced.positive (positive n (λ e. f (ap pos e))))
    cases (negsuc n) f = sym (school_rules.inverse_of_negative n h.den nh.reduced.positive ∙ ap (frac (neg_ℤ (pos h.den))) (omega arith))
