-- The product of two numbers of 64 bits with their signs.
use Rattle.std.proofs.Common.{◌≡◌, ℕ, ◌*◌, ◌≤◌, ◌<◌, ◌^◌, ℤ, ◌*ℤ◌, to_z, of_z, ap, ap₂, ◌∙◌, arith, mul-le-mul, lit<}
use Rattle.std.specs.Prelude.{unsigned_abs}
use Rattle.std.specs.Int.{w128}
use Rattle.std.proofs.lemmas.Int.{unsigned_abs-mul}
use Rattle.frac128.specs.Narrow.{IsNarrowWhole}
use Rattle.frac128.proofs.Readings.{back}

pub short_is_narrow : (a b : ℤ) → unsigned_abs a ≤ 2 ^ 63 → unsigned_abs b ≤ 2 ^ 63 → IsNarrowWhole (a *ℤ b)
short_is_narrow a b h k = omega (arith, unsigned_abs-mul a b, mul-le-mul h k)

narrow_short : (a : ℤ) → unsigned_abs a ≤ 2 ^ 63 → IsNarrowWhole a
narrow_short a h = omega arith

pub short_reads_back : (a b : ℤ) → unsigned_abs a ≤ 2 ^ 63 → unsigned_abs b ≤ 2 ^ 63
    → to_z w128 (of_z w128 (to_z w128 (of_z w128 a) *ℤ to_z w128 (of_z w128 b))) ≡ a *ℤ b
short_reads_back a b h k =
    ap (λ z. to_z w128 (of_z w128 z)) (λ i. back a (narrow_short a h) i *ℤ back b (narrow_short b k) i) ∙ back (a *ℤ b) (short_is_narrow a b h k)
