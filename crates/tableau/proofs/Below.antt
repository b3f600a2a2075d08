-- What holds at each number below n, and at n, holds at each number below n + 1.
use Rattle.std.proofs.Common.{◌≡◌, ◌⊎◌, inl, inr, ℕ, ◌+◌, ◌<◌, subst, arith}

pub below_more : (P : ℕ → Type 0) (n : ℕ) → ((i : ℕ) → i < n → P i) → P n → (i : ℕ) → i < n + 1 → P i
below_more P n f p i h = cases (halves h)
  where
    halves : i < n + 1 → (i < n) ⊎ (n ≡ i)
    halves l = grind arith

    cases : (i < n) ⊎ (n ≡ i) → P i
    cases (inl l) = f i l
    cases (inr e) = subst P e p
