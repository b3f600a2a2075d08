-- Slots are filled visit by visit.
use Rattle.std.proofs.Common.{◌≡◌, ◌≢◌, ℕ, suc, zero, ◌<◌, refl, sym, ap, ◌∙◌, subst, List, [], ◌∷◌, length, set, take, arith, inl, inr, ◌⊎◌}
use Rattle.std.specs.Prelude.{Some, slice_get, slice_index_or}
use Rattle.branch_bound.specs.declared.frontier.Visit.{Visit}
use Rattle.search_trees.specs.declared.slots.Slot.{Slot}
use Rattle.search_trees.specs.declared.slots.Slot.TheVariants as slots
use Rattle.search_trees.specs.Slots.{AreSlots, IsSlot, slot_at, slot_of}

-- ---- the first visits
within_take : (os : List Visit) (k i : ℕ) (v : Visit) → slice_get (take k os) i ≡ Some v → (i < k) × (slice_get os i ≡ Some v)
within_take [] zero i v e = absurd cc
within_take [] (suc k) i v e = absurd cc
within_take (o ∷ os) zero i v e = absurd cc
within_take (o ∷ os) (suc k) zero v e = (omega arith, e)
within_take (o ∷ os) (suc k) (suc i) v e = let h = within_take os k i v e in let l = h.0 in (omega (arith, l), h.1)

in_take : (os : List Visit) (k i : ℕ) (v : Visit) → i < k → slice_get os i ≡ Some v → slice_get (take k os) i ≡ Some v
in_take [] k i v l e = absurd cc
in_take (o ∷ os) zero i v l e = absurd (omega (arith, l))
in_take (o ∷ os) (suc k) zero v l e = e
in_take (o ∷ os) (suc k) (suc i) v l e = in_take os k i v (omega (arith, l)) e

one_some : (v w : Visit) → Some v ≡ Some w → v ≡ w
one_some v w e = cc

-- ---- slots
set_same : (ss : List Slot) (k : ℕ) (s d : Slot) → k < length ss → slice_index_or (set ss k s) k d ≡ s
set_same [] k s d l = absurd (omega (arith, l))
set_same (x ∷ ss) zero s d l = refl
set_same (x ∷ ss) (suc k) s d l = set_same ss k s d (omega (arith, l))

set_other : (ss : List Slot) (k n : ℕ) (s d : Slot) → k ≢ n → slice_index_or (set ss k s) n d ≡ slice_index_or ss n d
set_other [] k n s d h = refl
set_other (x ∷ ss) zero zero s d h = absurd (h refl)
set_other (x ∷ ss) zero (suc n) s d h = refl
set_other (x ∷ ss) (suc k) zero s d h = refl
set_other (x ∷ ss) (suc k) (suc n) s d h = set_other ss k n s d (λ e. h (ap suc e))

set-length : (ss : List Slot) (k : ℕ) (s : Slot) → length (set ss k s) ≡ length ss
set-length [] k s = refl
set-length (x ∷ ss) zero s = refl
set-length (x ∷ ss) (suc k) s = ap suc (set-length ss k s)

same_or_not : (i j : ℕ) → (i ≡ j) ⊎ (i ≢ j)
same_or_not zero zero = inl refl
same_or_not zero (suc j) = inr (λ e. absurd (omega (arith, e)))
same_or_not (suc i) zero = inr (λ e. absurd (omega (arith, e)))
same_or_not (suc i) (suc j) = elim (same_or_not i j) [ inl e ↦ inl (ap suc e) | inr h ↦ inr (λ e. h (omega (arith, e))) ]

below_next : (i k : ℕ) → i < suc k → i ≢ k → i < k
below_next zero zero l d = absurd (d refl)
below_next zero (suc k) l d = omega arith
below_next (suc i) zero l d = absurd (omega (arith, l))
below_next (suc i) (suc k) l d = let h = below_next i k (omega (arith, l)) (λ e. d (ap suc e)) in omega (arith, h)

pub no_slots : (count : ℕ) (ss : List Slot) → length ss ≡ count → ((n : ℕ) → slot_at ss n ≡ slots.Waits) → AreSlots count [] ss
no_slots count ss e h = record { size = e; each = λ n l. inl (h n, λ i v q z. absurd cc) }

-- one visit more
pub more_slots : (count : ℕ) (os : List Visit) (k : ℕ) (v : Visit) (ss : List Slot) → slice_get os k ≡ Some v → v.number < count → AreSlots count (take k os) ss
    → AreSlots count (take (suc k) os) (set ss v.number (slot_of v))
more_slots count os k v ss e l h = record { size = set-length ss v.number (slot_of v) ∙ h.size; each = λ n b. by_number n b (same_or_not v.number n) }
  where
    here : slice_get (take (suc k) os) k ≡ Some v
    here = in_take os (suc k) k v (omega arith) e

    later : (n : ℕ) (s : Slot) → v.number ≢ n → IsSlot (take k os) n s → IsSlot (take (suc k) os) n s
    later n s d (inl (w, never)) = inl (w, λ i x q z. none i x (within_take os (suc k) i x q) z)
      where
        none : (i : ℕ) (x : Visit) → (i < suc k) × (slice_get os i ≡ Some x) → x.number ≡ n → ⊥
        none i x (a, q) z = elim (same_or_not i k) [
          | inl y ↦ d (ap (λ (x : Visit). x.number) (one_some v x (sym e ∙ ap (slice_get os) (sym y) ∙ q)) ∙ z)
          | inr y ↦ never i x (in_take os k i x (below_next i k a y) q) z
        ]
    later n s d (inr o) =
        let w = within_take os k o.place o.visit o.there in
        let a = w.0 in
        inr record { place = o.place; visit = o.visit; there = in_take os (suc k) o.place o.visit (omega (arith, a)) w.1; number = o.number; slot = o.slot }

    by_number : (n : ℕ) → n < count → (v.number ≡ n) ⊎ (v.number ≢ n) → IsSlot (take (suc k) os) n (slot_at (set ss v.number (slot_of v)) n)
    by_number n b (inl q) =
        let s = h.size in
        inr record { place = k; visit = v; there = here; number = q; slot = ap (λ n. slot_at (set ss v.number (slot_of v)) n) (sym q) ∙ set_same ss v.number (slot_of v) slots.Waits (omega (arith, l, s)) }
    by_number n b (inr d) = subst (IsSlot (take (suc k) os) n) (sym (set_other ss v.number n (slot_of v) slots.Waits d)) (later n (slot_at ss n) d (h.each n b))
