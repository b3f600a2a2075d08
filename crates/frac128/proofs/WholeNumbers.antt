-- The laws of whole numbers that std lacks. `omega` reads z as `up z - down z`, and knows a product of two variables and no more.
use Rattle.std.proofs.Common.{◌≡◌, ℕ, ◌*◌, ◌<◌, ℤ, pos, ◌+ℤ◌, ◌*ℤ◌, sym, ◌∙◌, ap, arith}
use Rattle.std.proofs.lemmas.Int.{ints}
use Rattle.std.proofs.Math.Nat.{eq_of_mul-eq-mul_right}
use borrow.Author.Differences.{up, down, product_is, sum_is_lem, same_in, same_out}

-- (a * b) * c = a * (b * c)
pub mul_assoc : (a b c : ℤ) → (a *ℤ b) *ℤ c ≡ a *ℤ (b *ℤ c)
mul_assoc a b c =
    let l = product_is a b in
    let r = product_is b c in
    omega (
      arith,
      ints,
      ap (λ n. n * up c) l.0,
      ap (λ n. n * up c) l.1,
      ap (λ n. n * down c) l.0,
      ap (λ n. n * down c) l.1,
      ap (λ n. up a * n) r.0,
      ap (λ n. up a * n) r.1,
      ap (λ n. down a * n) r.0,
      ap (λ n. down a * n) r.1,
    )

pub scale_cancel : (a b : ℤ) (n : ℕ) → 0 < n → a *ℤ pos n ≡ b *ℤ pos n → a ≡ b
scale_cancel a b n h e =
    same_in a b (eq_of_mul-eq-mul_right n h _ _ (omega (arith, ints, same_out _ _ e)))

-- ---- a number times naturals: `omega (arith, ints)` knows `z *ℤ pos (m * n)` whole, so these turn each product into that form
pub scale_twice : (z : ℤ) (m n : ℕ) → (z *ℤ pos m) *ℤ pos n ≡ z *ℤ pos (m * n)
scale_twice z m n = mul_assoc z (pos m) (pos n)

pub scale_both : (a b : ℤ) (m n k : ℕ) → a *ℤ pos m ≡ b *ℤ pos n → a *ℤ pos (m * k) ≡ b *ℤ pos (n * k)
scale_both a b m n k e = sym (scale_twice a m k) ∙ ap (λ z. z *ℤ pos k) e ∙ scale_twice b n k

pub unscale_both : (a b : ℤ) (m n k : ℕ) → 0 < k → a *ℤ pos (m * k) ≡ b *ℤ pos (n * k) → a *ℤ pos m ≡ b *ℤ pos n
unscale_both a b m n k h e = scale_cancel _ _ k h (scale_twice a m k ∙ e ∙ sym (scale_twice b n k))

pub scale_sum : (a b : ℤ) (n : ℕ) → (a +ℤ b) *ℤ pos n ≡ a *ℤ pos n +ℤ b *ℤ pos n
scale_sum a b n = omega (arith, ints, ap (λ k. k * n) (sum_is_lem a b))
