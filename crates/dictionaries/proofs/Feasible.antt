-- Pivots by the least ratio keep the constants from being negative.
use Rattle.std.proofs.Common.{◌≡◌, ◌≢◌, ℕ, suc, ◌<◌, refl, sym, ap, ap₂, ◌∙◌, List, [], ◌∷◌, length, arith, ◌⊎◌, inl, inr}
use Rattle.std.proofs.lemmas.Bool.{cases_eq}
use Rattle.std.proofs.lemmas.List.{length-set}
use Rattle.fractions.specs.Rational.{ℚ, ◌+ℚ◌, ◌*ℚ◌, ◌/ℚ◌, inv_ℚ, neg_ℚ, ◌≤ℚ◌, ◌<ℚ◌, zero_ℚ, one_ℚ}
use Rattle.fractions.specs.Vectors.{at, times, without, only}
use Rattle.fractions.proofs.Common.{by_common₂, by_common₃, zero_same, linear}
use Rattle.fractions.proofs.Laws.{add-zero, mul_comm, mul-zero, mul-one, one-mul}
use Rattle.fractions.proofs.Order.{mul_nonneg, le_refl, mul-le-mul_nonneg, le_of_lt, inv_pos, ne_of_lt}
use Rattle.fractions.proofs.Signs.{add_nonneg}
use Rattle.fractions.proofs.Tests.{le_or_lt}
use Rattle.fractions.proofs.Inverse.{mul-inv, inv_unique}
use Rattle.fractions.proofs.Quote.{quotes, by_ring, by_equation}
use Rattle.dictionaries.specs.Dictionary.{Dictionary, row_of, IsShaped, IsFeasible, solved_row, substituted, pivoted}
use Rattle.dictionaries.specs.Bland.{IsCandidate, Leaves, ratio_of}
use Rattle.linear_programs.proofs.Vectors.{at-plus, at-times, at-without_other}
use Rattle.dictionaries.proofs.Pivots.{row_entered, row_other}

-- the constants after a pivot: the ratio in the leaving row, and as much more in the others as their entry says
pub entered_constant : (row : List ℚ) (c : ℕ) → at (solved_row row (suc c)) 0 ≡ neg_ℚ (inv_ℚ (at row (suc c))) *ℚ at row 0
entered_constant row c =
    at-plus (times (neg_ℚ (inv_ℚ (at row (suc c)))) (without row (suc c))) (only (suc c) (inv_ℚ (at row (suc c)))) 0
    ∙ ap₂ ◌+ℚ◌ (at-times (neg_ℚ (inv_ℚ (at row (suc c)))) (without row (suc c)) 0 ∙ ap (λ t. neg_ℚ (inv_ℚ (at row (suc c))) *ℚ t) (at-without_other row (suc c) 0 (λ e. absurd (omega arith)))) refl
    ∙ add-zero _

pub substituted_constant : (row by : List ℚ) (c : ℕ) → at (substituted row (suc c) by) 0 ≡ at row 0 +ℚ at row (suc c) *ℚ at by 0
substituted_constant row by c =
    at-plus (without row (suc c)) (times (at row (suc c)) by) 0 ∙ ap₂ ◌+ℚ◌ (at-without_other row (suc c) 0 (λ e. absurd (omega arith))) (at-times (at row (suc c)) by 0)

-- the inverse of a negated number
pub inv-neg : (x : ℚ) → x ≢ zero_ℚ → inv_ℚ (neg_ℚ x) ≡ neg_ℚ (inv_ℚ x)
inv-neg x n =
    inv_unique (neg_ℚ x) (neg_ℚ (inv_ℚ x))
    (by_equation one_ℚ (mul-inv x n) (x ∷ inv_ℚ x ∷ []) (search quotes depth 20) (search quotes depth 20) refl)

pub neg_pos : (x : ℚ) → x <ℚ zero_ℚ → zero_ℚ <ℚ neg_ℚ x
neg_pos x = by_common₂ (λ x y. x <ℚ zero_ℚ → zero_ℚ <ℚ neg_ℚ x) (λ p n q m d hd. simp (zero_same d hd, linear) (λ h. omega arith)) x x

-- the ratio of a candidate is the constant of its row once it is entered
pub ratio_is : (d : Dictionary) (c r : ℕ) → IsCandidate d c r → at (solved_row (row_of d r) (suc c)) 0 ≡ ratio_of d c r
ratio_is d c r k =
    entered_constant (row_of d r) c ∙ ap (λ t. t *ℚ at (row_of d r) 0) (sym (inv-neg (at (row_of d r) (suc c)) (ne_of_lt _ _ k.entry))) ∙ mul_comm _ _

pub ratio_nonnegative : (b e : ℚ) → zero_ℚ ≤ℚ b → e <ℚ zero_ℚ → zero_ℚ ≤ℚ b /ℚ neg_ℚ e
ratio_nonnegative b e h n = mul_nonneg b (inv_ℚ (neg_ℚ e)) h (le_of_lt _ _ (inv_pos (neg_ℚ e) (neg_pos e n)))

-- a constant that the entering variable, grown by the ratio t, leaves where it is at most the row's own ratio
pub bounded : (b a t : ℚ) → a <ℚ zero_ℚ → t ≤ℚ b /ℚ neg_ℚ a → zero_ℚ ≤ℚ b +ℚ a *ℚ t
bounded b a t n h =
    let z : zero_ℚ <ℚ neg_ℚ a = neg_pos a n in
    let m = mul-le-mul_nonneg (neg_ℚ a) t (b /ℚ neg_ℚ a) (le_of_lt _ _ z) h in
    shifted b (neg_ℚ a *ℚ t) (a *ℚ t) (rw (whole b (neg_ℚ a) (λ e. ne_of_lt _ _ z (sym e))) at m) (by_ring (a ∷ t ∷ []) (search quotes depth 20) (search quotes depth 20) refl)
  where
    whole : (b z : ℚ) → z ≢ zero_ℚ → z *ℚ (b *ℚ inv_ℚ z) ≡ b
    whole b z k = by_equation b (mul-inv z k) (b ∷ z ∷ inv_ℚ z ∷ []) (search quotes depth 20) (search quotes depth 20) refl

    shifted : (b u w : ℚ) → u ≤ℚ b → w ≡ neg_ℚ u → zero_ℚ ≤ℚ b +ℚ w
    shifted = by_common₃ _ (λ p n q m r o d hd. simp (zero_same d hd, linear) (omega arith))

pub leaving_keeps_feasible : (d : Dictionary) (r c : ℕ) → IsShaped d → IsFeasible d → Leaves d c r → IsFeasible (pivoted d r c)
leaving_keeps_feasible d r c s f l i h = cases i (rw length-set at h) (cases_eq i r)
  where
    other : (i : ℕ) → i < length d.basic → (zero_ℚ ≤ℚ at (row_of d i) (suc c)) ⊎ (at (row_of d i) (suc c) <ℚ zero_ℚ)
        → zero_ℚ ≤ℚ at (row_of d i) 0 +ℚ at (row_of d i) (suc c) *ℚ at (solved_row (row_of d r) (suc c)) 0
    other i h (inl g) =
        add_nonneg _ _ (f i h) (mul_nonneg _ _ g (rw (ratio_is d c r l.candidate) (ratio_nonnegative (at (row_of d r) 0) (at (row_of d r) (suc c)) (f r l.candidate.row) l.candidate.entry)))
    other i h (inr g) =
        bounded (at (row_of d i) 0) (at (row_of d i) (suc c)) _ g (rw (ratio_is d c r l.candidate) (l.least i record { row = h; entry = g }))

    cases : (i : ℕ) → i < length d.basic → (i ≡ r) ⊎ (i ≡ r → ⊥) → zero_ℚ ≤ℚ at (row_of (pivoted d r c) i) 0
    cases i h (inl e) =
        rw (ap (λ i. at (row_of (pivoted d r c) i) 0) e ∙ ap (λ row. at row 0) (row_entered d r c s l.candidate.row) ∙ ratio_is d c r l.candidate)
        (ratio_nonnegative (at (row_of d r) 0) (at (row_of d r) (suc c)) (f r l.candidate.row) l.candidate.entry)
    cases i h (inr n) =
        rw (ap (λ row. at row 0) (row_other d r c i s h n) ∙ substituted_constant (row_of d i) (solved_row (row_of d r) (suc c)) c)
        (other i h (le_or_lt zero_ℚ (at (row_of d i) (suc c))))

-- ---- the other pivots of phase 1
-- where the leaving row's constant is 0, no constant changes
pub retiring_keeps_feasible : (d : Dictionary) (r c : ℕ) → IsShaped d → IsFeasible d → r < length d.basic → at (row_of d r) 0 ≡ zero_ℚ → IsFeasible (pivoted d r c)
retiring_keeps_feasible d r c s f l e i h = cases i (rw length-set at h) (cases_eq i r)
  where
    entered_zero : at (solved_row (row_of d r) (suc c)) 0 ≡ zero_ℚ
    entered_zero = entered_constant (row_of d r) c ∙ ap (λ t. neg_ℚ (inv_ℚ (at (row_of d r) (suc c))) *ℚ t) e ∙ mul-zero _

    cases : (i : ℕ) → i < length d.basic → (i ≡ r) ⊎ (i ≡ r → ⊥) → zero_ℚ ≤ℚ at (row_of (pivoted d r c) i) 0
    cases i h (inl q) = rw (ap (λ i. at (row_of (pivoted d r c) i) 0) q ∙ ap (λ row. at row 0) (row_entered d r c s l) ∙ entered_zero) (le_refl zero_ℚ)
    cases i h (inr n) =
        rw (ap (λ row. at row 0) (row_other d r c i s h n) ∙ substituted_constant (row_of d i) (solved_row (row_of d r) (suc c)) c
        ∙ ap (λ t. at (row_of d i) 0 +ℚ at (row_of d i) (suc c) *ℚ t) entered_zero ∙ ap (λ t. at (row_of d i) 0 +ℚ t) (mul-zero _) ∙ add-zero _)
        (f i h)

-- where every entry of the column is 1, the least constant's row makes each constant as much greater
pub beginning_makes_feasible : (d : Dictionary) (r c : ℕ) → IsShaped d → ((i : ℕ) → i < length d.basic → at (row_of d i) (suc c) ≡ one_ℚ)
    → r < length d.basic → at (row_of d r) 0 <ℚ zero_ℚ → ((k : ℕ) → k < length d.basic → at (row_of d r) 0 ≤ℚ at (row_of d k) 0) → IsFeasible (pivoted d r c)
beginning_makes_feasible d r c s o l n least i h = cases i (rw length-set at h) (cases_eq i r)
  where
    inverse_one : inv_ℚ one_ℚ ≡ one_ℚ
    inverse_one = inv_unique one_ℚ one_ℚ (mul-one one_ℚ)

    entered_is : at (solved_row (row_of d r) (suc c)) 0 ≡ neg_ℚ (at (row_of d r) 0)
    entered_is =
        entered_constant (row_of d r) c ∙ ap (λ t. neg_ℚ (inv_ℚ t) *ℚ at (row_of d r) 0) (o r l) ∙ ap (λ t. neg_ℚ t *ℚ at (row_of d r) 0) inverse_one
        ∙ by_ring (at (row_of d r) 0 ∷ []) (search quotes depth 20) (search quotes depth 20) refl

    raised : (b m : ℚ) → m ≤ℚ b → zero_ℚ ≤ℚ b +ℚ neg_ℚ m
    raised = by_common₂ _ (λ p n q m d hd. simp (zero_same d hd, linear) (omega arith))

    cases : (i : ℕ) → i < length d.basic → (i ≡ r) ⊎ (i ≡ r → ⊥) → zero_ℚ ≤ℚ at (row_of (pivoted d r c) i) 0
    cases i h (inl q) =
        rw (ap (λ i. at (row_of (pivoted d r c) i) 0) q ∙ ap (λ row. at row 0) (row_entered d r c s l) ∙ entered_is) (le_of_lt _ _ (neg_pos _ n))
    cases i h (inr k) =
        rw (ap (λ row. at row 0) (row_other d r c i s h k) ∙ substituted_constant (row_of d i) (solved_row (row_of d r) (suc c)) c
        ∙ ap₂ (λ a t. at (row_of d i) 0 +ℚ a *ℚ t) (o i h) entered_is ∙ ap (λ t. at (row_of d i) 0 +ℚ t) (one-mul _))
        (raised _ _ (least i h))
