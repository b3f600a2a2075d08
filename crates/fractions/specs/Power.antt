-- Powers with whole exponents.
use Rattle.std.specs.Prelude.{◌≡◌, ◌≢◌, ℕ, zero, suc, ℤ, pos, negsuc, neg_ℤ, ◌+ℤ◌}
use Rattle.fractions.specs.Rational.{ℚ, zero_ℚ, one_ℚ, ◌*ℚ◌, inv_ℚ}

-- x times itself, k times
abbrev pub repeated : ℚ → ℕ → ℚ
repeated x zero = one_ℚ
repeated x (suc k) = x *ℚ repeated x k

-- x to a whole power; below 0 it is the inverse of the power with the sign turned
unfoldable pub power_ℚ : ℚ → ℤ → ℚ
power_ℚ x (pos k) = repeated x k
power_ℚ x (negsuc k) = inv_ℚ (repeated x (suc k))

-- what powers are, as one statement
pub record PowerRules : Type 0 where
  pub none : (x : ℚ) → power_ℚ x (pos 0) ≡ one_ℚ
  pub one_more : (x : ℚ) (e : ℤ) → x ≢ zero_ℚ → power_ℚ x (e +ℤ pos 1) ≡ x *ℚ power_ℚ x e
  pub turned : (x : ℚ) (e : ℤ) → x ≢ zero_ℚ → power_ℚ x (neg_ℤ e) ≡ inv_ℚ (power_ℚ x e)
  pub sum : (x : ℚ) (e f : ℤ) → x ≢ zero_ℚ → power_ℚ x (e +ℤ f) ≡ power_ℚ x e *ℚ power_ℚ x f
