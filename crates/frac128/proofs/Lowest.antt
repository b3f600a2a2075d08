-- Pairs of one value, and the one in lowest terms.
use Rattle.std.proofs.Common.{◌≡◌, ℕ, zero, suc, ◌*◌, ◌/◌, ◌<◌, ◌^◌, Bool, true, false, ℤ, pos, negsuc, neg_ℤ, ◌*ℤ◌, refl, sym, ◌∙◌, ap, subst, arith}
use Rattle.std.specs.Prelude.{unsigned_abs}
use Rattle.std.specs.Int.{IsGcd}
use Rattle.std.proofs.lemmas.Int.{ints, unsigned_abs-mul}
use Rattle.std.proofs.Math.Nat.{div-mul_cancel, pos_of_dvd_of_pos, zero-mul}
use Rattle.frac128.specs.Pairs.{Pair, IsSame, IsReduced, IsNarrowPair, HasNarrow}
use Rattle.frac128.specs.Signed.{signed}
use Rattle.frac128.proofs.Coprime.{same_reduced, coprime-quotients}
use Rattle.frac128.proofs.WholeNumbers.{scale_cancel, scale_both, unscale_both}

pub same_trans : (x y z : Pair) → 0 < y.den → IsSame x y → IsSame y z → IsSame x z
same_trans x y z h e f =
    unscale_both x.num z.num z.den x.den y.den h
    (omega (arith, ints, scale_both x.num y.num y.den x.den z.den e, scale_both y.num z.num z.den y.den x.den f))

-- fractions in lowest terms of one value are one fraction
pub same_fraction : (x y : Pair) → IsReduced x → IsReduced y → IsSame x y → x ≡ y
same_fraction x y p q e =
    let sizes : unsigned_abs x.num * y.den ≡ unsigned_abs y.num * x.den =
    sym (unsigned_abs-mul x.num (pos y.den)) ∙ ap unsigned_abs e ∙ unsigned_abs-mul y.num (pos x.den) in
    let dens = (same_reduced _ _ _ _ p.positive q.positive p.coprime q.coprime sizes).1 in
    let nums : x.num ≡ y.num = scale_cancel x.num y.num y.den q.positive (e ∙ ap (λ n. y.num *ℤ pos n) dens) in
    λ i. record { num = nums i; den = dens i }

-- a fraction in lowest terms is narrow where any of its value is
pub is_narrow : (r x : Pair) → 0 < x.den → IsReduced r → IsSame r x → HasNarrow x → IsNarrowPair r
is_narrow r x h p e w =
    let same : w.0 ≡ r = same_fraction w.0 r w.1.reduced p (same_trans w.0 x r h w.2 (sym e)) in
    subst IsNarrowPair same w.1

pub abs-signed : (s : Bool) (n : ℕ) → unsigned_abs (signed s n) ≡ n
abs-signed false n = refl
abs-signed true zero = refl
abs-signed true (suc n) = refl

pub signed-scale : (s : Bool) (m n : ℕ) → signed s m *ℤ pos n ≡ signed s (m * n)
signed-scale false m n = refl
signed-scale true zero n = simp zero-mul
signed-scale true (suc m) n = refl

pub abs-neg : (z : ℤ) → unsigned_abs (neg_ℤ z) ≡ unsigned_abs z
abs-neg (pos zero) = refl
abs-neg (pos (suc n)) = refl
abs-neg (negsuc n) = refl

pub narrow-neg : (n : ℤ) (d : ℕ) → IsNarrowPair (record { num = n; den = d }) → IsNarrowPair (record { num = neg_ℤ n; den = d })
narrow-neg n d h = record {
  num = rw abs-neg h.num;
  den = h.den;
  reduced = record { positive = h.reduced.positive; coprime = rw abs-neg h.reduced.coprime };
}

-- n / d without the greatest common divisor g of n and d
pub divisor_positive : (n d g : ℕ) → 0 < d → IsGcd n d g → 0 < g
divisor_positive n d g h p = pos_of_dvd_of_pos p.1 h

pub lowest_reduced : (s : Bool) (n d g : ℕ) → 0 < d → IsGcd n d g → IsReduced (record { num = signed s (n / g); den = d / g })
lowest_reduced s n d g h p =
    let hg = divisor_positive n d g h p in
    let e = div-mul_cancel g p.1 in
    record {
      positive = pos_of_mul (d / g) g (subst (λ k. 0 < k) (sym e) h);
      coprime = rw abs-signed (coprime-quotients n d g hg p);
    }
  where
    pos_of_mul : (a b : ℕ) → 0 < a * b → 0 < a
    pos_of_mul zero b h = absurd (omega arith)
    pos_of_mul (suc a) b h = omega arith

pub lowest_same : (s : Bool) (n d g : ℕ) → IsGcd n d g → IsSame (record { num = signed s (n / g); den = d / g }) (record { num = signed s n; den = d })
lowest_same s n d g p =
    let en = div-mul_cancel g p.0 in
    let ed = div-mul_cancel g p.1 in
    let e : (n / g) * d ≡ n * (d / g) = omega (arith, ap (λ k. (n / g) * k) ed, ap (λ k. k * (d / g)) en) in
    signed-scale s (n / g) d ∙ ap (signed s) e ∙ sym (signed-scale s n (d / g))

pub lowest_narrow : (s : Bool) (n d g : ℕ) → 0 < d → IsGcd n d g → n / g < 2 ^ 127 → d / g < 2 ^ 127 → IsNarrowPair (record { num = signed s (n / g); den = d / g })
lowest_narrow s n d g h p a b = record { num = rw abs-signed a; den = b; reduced = lowest_reduced s n d g h p }

-- where that is not narrow, nothing of the value is
pub lowest_wide : (s : Bool) (n d g : ℕ) → 0 < d → IsGcd n d g → HasNarrow (record { num = signed s n; den = d }) → (n / g < 2 ^ 127) × (d / g < 2 ^ 127)
lowest_wide s n d g h p w =
    let r = is_narrow (record { num = signed s (n / g); den = d / g }) (record { num = signed s n; den = d }) h (lowest_reduced s n d g h p) (lowest_same s n d g p) w in
    (rw abs-signed at r.num, r.den)
