-- A narrow number that was stored and is read again is the same number.
use Rattle.std.proofs.Common.{◌≡◌, arith, lit<, ℤ, to_z, of_z}
use Rattle.std.specs.Int.{w128}
use Rattle.std.proofs.lemmas.Int.{to_z-of_z, fits_signed_from_abs}
use Rattle.std.proofs.Math.Nat.{eq-one_of_dvd-one}
use Rattle.frac128.specs.Pairs.{IsNarrowPair}
use Rattle.frac128.specs.Narrow.{IsNarrowWhole}

pub back : (z : ℤ) → IsNarrowWhole z → to_z w128 (of_z w128 z) ≡ z
back z h = to_z-of_z w128 z (fits_signed_from_abs w128 z h)

-- a whole number is in lowest terms over 1
pub narrow_over_one : (z : ℤ) → IsNarrowWhole z → IsNarrowPair (record { num = z; den = 1 })
narrow_over_one z h = record { num = h; den = lit< tt; reduced = record { positive = omega arith; coprime = λ d a b. eq-one_of_dvd-one b } }
