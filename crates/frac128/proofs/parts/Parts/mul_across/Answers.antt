use Rattle.std.proofs.Common.{◌≡◌, ℕ, pos, ◌*◌, ◌/◌, ◌<◌, ◌≤◌, ◌^◌, subst, ℤ, to_z, of_z, arith, ap, ◌∙◌}
use mathlib.Core.Bool.{not, beq}
use Rattle.std.proofs.lemmas.Bool.{false≢true}
use Rattle.std.specs.Prelude.{unsigned_abs, int_lt}
use Rattle.std.specs.Int.{IsGcd, w128}
use Rattle.std.proofs.lemmas.Int.{to_z-of_z, fits_signed_from_abs}
use Rattle.frac128.specs.Pairs.{Pair, IsSame, IsNarrowPair, product}
use Rattle.frac128.specs.Signed.{signed}
use Rattle.frac128.proofs.Products.{IsCrossed, crossed_fits, crossed_made}
use Rattle.frac128.proofs.parts.Parts.mul_across.Goals as goal

-- the number read back is the field
back : (f : Pair) → IsNarrowPair f → to_z w128 (of_z w128 f.num) ≡ f.num
back f h = to_z-of_z w128 f.num (fits_signed_from_abs w128 f.num h.num)

-- what the call has found, where the numbers of the fields are read back from their bits
crossed : (x y : Pair) (m k g h : ℕ) → IsNarrowPair x → IsNarrowPair y → m ≡ unsigned_abs (to_z w128 (of_z w128 x.num)) → k ≡ unsigned_abs (to_z w128 (of_z w128 y.num)) → IsGcd m y.den g → IsGcd k x.den h → IsCrossed x y m k g h
crossed x y m k g h p q em ek gl gr = record {
  x_reduced = p.reduced;
  y_reduced = q.reduced;
  left = em ∙ ap unsigned_abs (back x p);
  right = ek ∙ ap unsigned_abs (back y q);
  over_left = gl;
  over_right = gr;
}

-- a product of numbers, each of them a quotient
of_quotients : (n a b x y : ℕ) → a ≡ x → b ≡ y → (n ≡ a * b) × (n < 2 ^ 127) → (n ≡ x * y) × (n < 2 ^ 127)
of_quotients n a b x y p q h = (h.0 ∙ (λ i. p i * q i), h.1)

too_great : (a b x y : ℕ) → a ≡ x → b ≡ y → 2 ^ 127 ≤ a * b → 2 ^ 127 ≤ x * y
too_great a b x y p q h = subst (λ n. 2 ^ 127 ≤ n) (λ i. p i * q i) h

pub returns-in_err-num-clause-wide : goal.returns-in_err-num-clause-wide
returns-in_err-num-clause-wide c =
    let s = crossed _ _ _ _ _ _ c.self.invariant c.other.invariant c.unsigned_abs-left.ensures.value c.unsigned_abs-right.ensures.value c.gcd-over_left.ensures.gcd c.gcd-over_right.ensures.gcd in
    rw (← c.self.view_is, ← c.other.view_is)
    (λ _ n. let small = crossed_fits _ _ _ _ _ _ s n in let great = too_great _ _ _ _ c.quotient-num_left.ensures c.quotient-num_right.ensures c.in_err-num.ensures in omega arith, λ _. c.from_residual.ensures.0)

pub returns-in_err-den-clause-wide : goal.returns-in_err-den-clause-wide
returns-in_err-den-clause-wide c =
    let s = crossed _ _ _ _ _ _ c.self.invariant c.other.invariant c.unsigned_abs-left.ensures.value c.unsigned_abs-right.ensures.value c.gcd-over_left.ensures.gcd c.gcd-over_right.ensures.gcd in
    rw (← c.self.view_is, ← c.other.view_is)
    (λ _ n. let small = crossed_fits _ _ _ _ _ _ s n in let great = too_great _ _ _ _ c.quotient-den_left.ensures c.quotient-den_right.ensures c.in_err-den.ensures in omega arith, λ _. c.from_residual-in_err-den.ensures.0)

made : (x y : Pair) (m k g h n d : ℕ) (v : ℤ) → IsNarrowPair x → IsNarrowPair y → m ≡ unsigned_abs (to_z w128 (of_z w128 x.num)) → k ≡ unsigned_abs (to_z w128 (of_z w128 y.num)) → IsGcd m y.den g → IsGcd k x.den h
    → (n ≡ m / g * (k / h)) × (n < 2 ^ 127) → (d ≡ x.den / h * (y.den / g)) × (d < 2 ^ 127) → v ≡ signed (not (beq (int_lt (to_z w128 (of_z w128 x.num)) (pos 0)) (int_lt (to_z w128 (of_z w128 y.num)) (pos 0)))) n
    → IsNarrowPair (record { num = to_z w128 (of_z w128 v); den = d }) × IsSame (record { num = to_z w128 (of_z w128 v); den = d }) (product x y)
made x y m k g h n d v p q em ek gl gr en ed ev =
    let r = crossed_made x y m k g h (crossed x y m k g h p q em ek gl gr) n d en.0 ed.0 en.1 ed.1 v (rw (back x p, back y q) at ev) in
    rw (back (record { num = v; den = d }) r.0) r

pub invariant_of-result : goal.invariant_of-result
invariant_of-result c =
    (made _ _ _ _ _ _ _ _ _ c.self.invariant c.other.invariant c.unsigned_abs-left.ensures.value c.unsigned_abs-right.ensures.value c.gcd-over_left.ensures.gcd c.gcd-over_right.ensures.gcd
    (of_quotients _ _ _ _ _ c.quotient-num_left.ensures c.quotient-num_right.ensures c.in_ok-num.ensures) (of_quotients _ _ _ _ _ c.quotient-den_left.ensures c.quotient-den_right.ensures c.in_ok-den.ensures) c.with_sign.ensures).0

pub returns-clause-value : goal.returns-clause-value
returns-clause-value c =
    rw (← c.self.view_is, ← c.other.view_is)
    (made _ _ _ _ _ _ _ _ _ c.self.invariant c.other.invariant c.unsigned_abs-left.ensures.value c.unsigned_abs-right.ensures.value c.gcd-over_left.ensures.gcd c.gcd-over_right.ensures.gcd
    (of_quotients _ _ _ _ _ c.quotient-num_left.ensures c.quotient-num_right.ensures c.in_ok-num.ensures) (of_quotients _ _ _ _ _ c.quotient-den_left.ensures c.quotient-den_right.ensures c.in_ok-den.ensures) c.with_sign.ensures)

pub returns-clause-wide : goal.returns-clause-wide
returns-clause-wide c =
    let r = made _ _ _ _ _ _ _ _ _ c.self.invariant c.other.invariant c.unsigned_abs-left.ensures.value c.unsigned_abs-right.ensures.value c.gcd-over_left.ensures.gcd c.gcd-over_right.ensures.gcd
    (of_quotients _ _ _ _ _ c.quotient-num_left.ensures c.quotient-num_right.ensures c.in_ok-num.ensures) (of_quotients _ _ _ _ _ c.quotient-den_left.ensures c.quotient-den_right.ensures c.in_ok-den.ensures) c.with_sign.ensures in
    rw (← c.self.view_is, ← c.other.view_is) (λ e. absurd (false≢true e), λ n. absurd (n (_, r.0, r.1)))
