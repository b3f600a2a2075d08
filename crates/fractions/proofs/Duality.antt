-- Weak duality.
use Rattle.std.proofs.Common.{List, [], ◌∷◌, arith}
use Rattle.fractions.specs.Rational.{ℚ, ◌+ℚ◌, ◌*ℚ◌, ◌≤ℚ◌, zero_ℚ}
use Rattle.fractions.specs.Vectors.{dot, AllNonNegative, EachAtMost}
use Rattle.fractions.specs.Rows.{Row, Meets, combined, combined_bound, WeakDuality}
use Rattle.fractions.proofs.Laws.{mul-zero, zero-add, mul_comm}
use Rattle.fractions.proofs.Common.{by_common₂, zero_same, add_same, le_same}
use Rattle.fractions.proofs.Order.{mul_nonneg, le_refl, le_trans, add-le-add, mul-le-mul_nonneg}
use Rattle.fractions.proofs.Vectors.{dot-times, dot-plus}

-- ---- weak duality
dot_le : (c d x : List ℚ) → EachAtMost c d → AllNonNegative x → dot c x ≤ℚ dot d x
dot_le [] [] x h p = le_refl zero_ℚ
dot_le [] (b ∷ d) [] h p = le_refl zero_ℚ
dot_le [] (b ∷ d) (v ∷ x) h p = above _ _ (mul_nonneg b v h.0 p.0) (dot_le [] d x h.1 p.1)
  where
    above : (s t : ℚ) → zero_ℚ ≤ℚ s → zero_ℚ ≤ℚ t → zero_ℚ ≤ℚ s +ℚ t
    above = by_common₂ (λ s t. zero_ℚ ≤ℚ s → zero_ℚ ≤ℚ t → zero_ℚ ≤ℚ s +ℚ t) (λ p n q m d hd. simp (zero_same d hd, add_same, le_same) (λ h i. omega arith))
dot_le (a ∷ c) [] [] h p = le_refl zero_ℚ
dot_le (a ∷ c) [] (v ∷ x) h p =
    let k : a *ℚ v ≤ℚ zero_ℚ = rw (mul_comm a v) (rw (mul-zero v) at (mul-le-mul_nonneg v a zero_ℚ p.0 h.0)) in
    let t : dot c x ≤ℚ zero_ℚ = dot_le c [] x h.1 p.1 in
    rw (zero-add zero_ℚ) at (add-le-add _ _ _ _ k t)
dot_le (a ∷ c) (b ∷ d) [] h p = le_refl zero_ℚ
dot_le (a ∷ c) (b ∷ d) (v ∷ x) h p = add-le-add _ _ _ _ (rw (mul_comm a v, mul_comm b v) (mul-le-mul_nonneg v a b p.0 h.0)) (dot_le c d x h.1 p.1)

combined_le : (y : List ℚ) (rows : List Row) (x : List ℚ) → AllNonNegative y → Meets rows x → dot (combined y rows) x ≤ℚ combined_bound y rows
combined_le [] rows x h m = le_refl zero_ℚ
combined_le (k ∷ y) [] x h m = le_refl zero_ℚ
combined_le (k ∷ y) (r ∷ rows) x h m =
    simp (dot-plus, dot-times) (add-le-add _ _ _ _ (mul-le-mul_nonneg k _ _ h.0 m.0) (combined_le y rows x h.1 m.1))

pub weak_duality : WeakDuality
weak_duality rows c x y px py m d = le_trans _ _ _ (dot_le c (combined y rows) x d px) (combined_le y rows x py m)
