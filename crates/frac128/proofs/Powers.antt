-- Powers and reciprocals of fractions in lowest terms.
use Rattle.std.proofs.Common.{◌≡◌, ◌≢◌, ℕ, zero, suc, ◌%◌, ◌<◌, ◌^◌, ◌==◌, Bool, ℤ, pos, negsuc, neg_ℤ, refl, subst, arith}
use Rattle.std.specs.Prelude.{unsigned_abs}
use Rattle.std.specs.Int.{◌∣◌, int_pow}
use Rattle.std.proofs.lemmas.Bool.{cond_both}
use Rattle.std.proofs.Math.Nat.{pow-suc, pow-zero, one-le-pow, eq-one_of_dvd-one}
use Rattle.frac128.specs.Pairs.{Pair, IsReduced, IsNarrowPair, IsCoprime, power}
use Rattle.frac128.specs.Signed.{signed}
use Rattle.frac128.proofs.Coprime.{coprime-mul, coprime-swap}
use Rattle.frac128.proofs.Lowest.{abs-signed, abs-neg}

coprime-pow_left : (a b e : ℕ) → IsCoprime a b → IsCoprime (a ^ e) b
coprime-pow_left a b zero h d p q = eq-one_of_dvd-one (subst (λ n. d ∣ n) (pow-zero a) p)
coprime-pow_left a b (suc e) h d p q = coprime-mul (a ^ e) a b (coprime-pow_left a b e h) h d (subst (λ n. d ∣ n) (pow-suc a e) p) q

pub coprime-pow : (a b e : ℕ) → IsCoprime a b → IsCoprime (a ^ e) (b ^ e)
coprime-pow a b e h = coprime-swap (b ^ e) (a ^ e) (coprime-pow_left b (a ^ e) e (coprime-swap (a ^ e) b (coprime-pow_left a b e h)))

pub abs-int_pow : (z : ℤ) (e : ℕ) → unsigned_abs (int_pow z e) ≡ unsigned_abs z ^ e
abs-int_pow (pos n) e = refl
abs-int_pow (negsuc n) e = cond_both (e % 2 == 0) (pos (suc n ^ e)) (neg_ℤ (pos (suc n ^ e))) (λ z. unsigned_abs z ≡ suc n ^ e) (λ _. refl) (λ _. abs-neg (pos (suc n ^ e)))

pub reduced-power : (x : Pair) (e : ℕ) → IsReduced x → IsReduced (power x e)
reduced-power x e h = record {
  positive = one-le-pow e x.den h.positive;
  coprime = rw abs-int_pow (coprime-pow _ _ e h.coprime);
}

pub narrow_reciprocal : (z : ℤ) (d : ℕ) (s : Bool) → z ≢ pos 0 → IsNarrowPair (record { num = z; den = d }) → IsNarrowPair (record { num = signed s d; den = unsigned_abs z })
narrow_reciprocal z d s other h = record {
  num = rw abs-signed h.den;
  den = h.num;
  reduced = record { positive = some z other; coprime = rw abs-signed (coprime-swap _ _ h.reduced.coprime) };
}
  where
    some : (z : ℤ) → z ≢ pos 0 → 0 < unsigned_abs z
    some (pos zero) e = absurd (e refl)
    some (pos (suc n)) e = omega arith
    some (negsuc n) e = omega arith
