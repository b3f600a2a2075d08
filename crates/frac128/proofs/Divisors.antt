-- The greatest common divisor where one of the numbers is 1.
use Rattle.std.proofs.Common.{◌≡◌, ℕ}
use Rattle.std.specs.Int.{IsGcd}
use Rattle.std.proofs.Math.Nat.{one-dvd}

pub gcd_of_one : (a b : ℕ) → a ≡ 1 → IsGcd a b 1
gcd_of_one a b e = rw e (one-dvd 1, one-dvd b, λ d p q. p)

pub gcd_with_one : (a b : ℕ) → b ≡ 1 → IsGcd a b 1
gcd_with_one a b e = rw e (one-dvd a, one-dvd 1, λ d p q. q)
