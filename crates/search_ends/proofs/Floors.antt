-- The floor of a number that isn't whole, and the whole number above it, fit where the number does.
use Rattle.std.proofs.Common.{◌≡◌, ◌≢◌, ℕ, suc, zero, ◌+◌, ◌*◌, ◌<◌, ◌≤◌, ◌^◌, ℤ, pos, negsuc, ◌+ℤ◌, arith, sym, subst}
use Rattle.std.proofs.lemmas.Int.{ints}
use Rattle.std.specs.Prelude.{◌/◌}
use Rattle.std.proofs.Math.Nat.{div-mul-le_self}
use Rattle.fractions.specs.Rational.{ℚ, numerator, denominator}
use Rattle.fractions.specs.Floor.{floor_ℚ, rounded_down}
use Rattle.fractions.proofs.Parts.{den_pos}
use Rattle.frac128.specs.Narrow.{IsNarrow, IsNarrowWhole}

half : (n d : ℕ) → 2 ≤ d → (n / d) * 2 ≤ n
half n d l = let e : n / d * d ≤ n = div-mul-le_self n d in let h : (n / d) * 2 ≤ (n / d) * d = grow (n / d) d l in omega (arith, e, h)
  where
    grow : (q d : ℕ) → 2 ≤ d → q * 2 ≤ q * d
    grow q d l = grind arith

above : (k : ℕ) → k + 1 < 2 ^ 127 → IsNarrowWhole (pos k +ℤ pos 1)
above k l = let e : pos k +ℤ pos 1 ≡ pos (k + 1) = omega (arith, ints) in subst (λ (z : ℤ). IsNarrowWhole z) (sym e) l

above_negative : (k : ℕ) → k < 2 ^ 127 → IsNarrowWhole (negsuc k +ℤ pos 1)
above_negative zero l = omega arith
above_negative (suc k) l = let e : negsuc (suc k) +ℤ pos 1 ≡ negsuc k = omega (arith, ints) in subst (λ (z : ℤ). IsNarrowWhole z) (sym e) l

rounded : (z : ℤ) (d : ℕ) → 2 ≤ d → IsNarrowWhole z → IsNarrowWhole (rounded_down z d) × IsNarrowWhole (rounded_down z d +ℤ pos 1)
rounded (pos n) d l h =
    let e = half n d l in
    let b : n < 2 ^ 127 = h in
    (small (n / d) n e b, above (n / d) (omega (arith, e, b)))
  where
    small : (q n : ℕ) → q * 2 ≤ n → n < 2 ^ 127 → q < 2 ^ 127
    small q n e b = omega (arith, e, b)
rounded (negsuc n) d l h =
    let e = half n d l in
    let b : suc n < 2 ^ 127 = h in
    (small (n / d) n e b, above_negative (n / d) (omega (arith, e, b)))
  where
    small : (q n : ℕ) → q * 2 ≤ n → suc n < 2 ^ 127 → suc q < 2 ^ 127
    small q n e b = omega (arith, e, b)

pub floor_narrow : (x : ℚ) → IsNarrow x → denominator x ≢ 1 → IsNarrowWhole (floor_ℚ x) × IsNarrowWhole (floor_ℚ x +ℤ pos 1)
unfolding floor_ℚ
floor_narrow x h n = let p = den_pos x in let l : 2 ≤ denominator x = omega (arith, p, n) in rounded (numerator x) (denominator x) l h.num
