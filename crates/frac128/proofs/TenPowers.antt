-- Powers of ten, and which of them fit.
use Rattle.std.proofs.Common.{◌≢◌, ℕ, ◌*◌, ◌^◌, ◌<◌, ◌≤◌, arith, lit≤, lit<}
use Rattle.std.proofs.Math.Nat.{pow-le-pow_right, one-le-pow}

pub big_power : (k : ℕ) → 38 < k → 2 ^ 127 ≤ 10 ^ k
big_power k h =
    let ten : 0 < 10 = omega arith in
    let least : 10 ^ 39 ≤ 10 ^ k = pow-le-pow_right ten {i = 39} {j = k} (omega arith) in
    let large : 2 ^ 127 ≤ 10 ^ 39 = lit≤ tt in
    omega (arith, least, large)

pub big_shift : (n k : ℕ) → n ≢ 0 → 38 < k → 2 ^ 127 ≤ n * 10 ^ k
big_shift n k h l =
    let one : 1 ≤ n = omega arith in
    omega (arith, big_power k l, scaled n (10 ^ k) one)
  where
    scaled : (n p : ℕ) → 1 ≤ n → p ≤ n * p
    scaled n p h = grind arith

pub small_power : (k : ℕ) → k ≤ 38 → 10 ^ k < 2 ^ 128
small_power k h =
    let ten : 0 < 10 = omega arith in
    let most : 10 ^ k ≤ 10 ^ 38 = pow-le-pow_right ten {i = k} {j = 38} h in
    let fits : 10 ^ 38 < 2 ^ 128 = lit< tt in
    omega (arith, most, fits)

pub narrow_power : (k : ℕ) → k ≤ 38 → 10 ^ k < 2 ^ 127
narrow_power k h =
    let ten : 0 < 10 = omega arith in
    let most : 10 ^ k ≤ 10 ^ 38 = pow-le-pow_right ten {i = k} {j = 38} h in
    let fits : 10 ^ 38 < 2 ^ 127 = lit< tt in
    omega (arith, most, fits)

pub one_le_ten : (k : ℕ) → 1 ≤ 10 ^ k
one_le_ten k = one-le-pow k 10 (omega arith)
