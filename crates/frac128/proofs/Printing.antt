-- The printed form: places, points and what is appended.
use Rattle.std.proofs.Common.{◌≡◌, ◌≢◌, ℕ, zero, suc, ◌+◌, ◌-◌, ◌%◌, ◌^◌, ◌<◌, ◌≤◌, Bool, true, false, cond, eqb, List, [], ◌++◌, Option, Some, None, MatchOption, ⊎_elim, refl, sym, ap, subst, ◌∙◌, arith, append_assoc, length-append, String, string_bytes}
use Rattle.std.proofs.lemmas.Bool.{eq-eqb, ne_eqb, eqb-true, eqb-false, cases_eq}
use Rattle.std.proofs.lemmas.List.{append-nil}
use Rattle.frac128.specs.Appends.{Appends}
use Rattle.frac128.specs.Printed.{least_places, PlacesAreLeast}

-- ---- places
pub places-found : (n k d : ℕ) → 0 < n → (10 ^ k) % d ≡ 0 → least_places n k d ≡ Some k
unfolding least_places
places-found zero k d h e = absurd (omega arith)
places-found (suc n) k d h e = ap (λ t. cond t (Some k) (least_places n (suc k) d)) (eq-eqb ((10 ^ k) % d) 0 e)

pub places-passed : (n k d : ℕ) → 0 < n → (10 ^ k) % d ≢ 0 → least_places (n - 1) (k + 1) d ≡ least_places n k d
unfolding least_places
places-passed zero k d h e = absurd (omega arith)
places-passed (suc n) k d h e = rw (one n, next k) (sym (ap (λ t. cond t (Some k) (least_places n (suc k) d)) (ne_eqb ((10 ^ k) % d) 0 e)))
  where
    one : (n : ℕ) → suc n - 1 ≡ n
    one n = omega arith

    next : (k : ℕ) → k + 1 ≡ suc k
    next k = omega arith

pub places-none : (k d : ℕ) → least_places 0 k d ≡ None
unfolding least_places
places-none k d = refl

abbrev IsLeast : ℕ → ℕ → ℕ → Option ℕ → Type 0
IsLeast n k d o = MatchOption o ((j : ℕ) → k ≤ j → j < k + n → (10 ^ j) % d ≢ 0) (λ i. (i < k + n) × ((10 ^ i) % d ≡ 0) × ((j : ℕ) → k ≤ j → j < i → (10 ^ j) % d ≢ 0))

from_next : (k d j : ℕ) → (10 ^ k) % d ≢ 0 → k ≤ j → (suc k ≤ j → (10 ^ j) % d ≢ 0) → (10 ^ j) % d ≢ 0
from_next k d j h l r = ⊎_elim (λ e. subst (λ i. (10 ^ i) % d ≢ 0) e h) (λ ne. r (omega arith)) (cases_eq k j)

later : (n k d : ℕ) (o : Option ℕ) → (10 ^ k) % d ≢ 0 → IsLeast n (suc k) d o → IsLeast (suc n) k d o
later n k d None h r = λ j l m. from_next k d j h l (λ g. r j g (omega arith))
later n k d (Some i) h r = (omega (arith, r.0), r.1, λ j l m. from_next k d j h l (λ g. r.2 j g m))

places-least : (n k d : ℕ) → IsLeast n k d (least_places n k d)
unfolding least_places
places-least zero k d = λ j l m. absurd (omega arith)
places-least (suc n) k d = by_test (eqb ((10 ^ k) % d) 0) (eqb-true ((10 ^ k) % d) 0) (eqb-false ((10 ^ k) % d) 0) (places-least n (suc k) d)
  where
    by_test : (t : Bool) → (t ≡ true → (10 ^ k) % d ≡ 0) → (t ≡ false → (10 ^ k) % d ≢ 0) → IsLeast n (suc k) d (least_places n (suc k) d) → IsLeast (suc n) k d (cond t (Some k) (least_places n (suc k) d))
    by_test true h g r = (omega arith, h refl, λ j l m. absurd (omega arith))
    by_test false h g r = later n k d (least_places n (suc k) d) (g refl) r

pub places_are_least : PlacesAreLeast
places_are_least d = from_zero (least_places 19 0 d) (places-least 19 0 d)
  where
    from_zero : (o : Option ℕ) → IsLeast 19 0 d o → MatchOption o ((j : ℕ) → j < 19 → (10 ^ j) % d ≢ 0) (λ k. (k < 19) × ((10 ^ k) % d ≡ 0) × ((j : ℕ) → j < k → (10 ^ j) % d ≢ 0))
    from_zero None r = λ j l. r j (omega arith) (omega arith)
    from_zero (Some i) r = (omega (arith, r.0), r.1, λ j l. r.2 j (omega arith) l)

pub places-small : (n k d : ℕ) (j : ℕ) → least_places n k d ≡ Some j → (j < k + n) × (k ≤ j) × ((10 ^ j) % d ≡ 0)
unfolding least_places
places-small zero k d j e = cc
places-small (suc n) k d j e = by_test (eqb ((10 ^ k) % d) 0) (eqb-true ((10 ^ k) % d) 0) e (places-small n (suc k) d j)
  where
    by_test : (t : Bool) → (t ≡ true → (10 ^ k) % d ≡ 0) → cond t (Some k) (least_places n (suc k) d) ≡ Some j
        → (least_places n (suc k) d ≡ Some j → (j < suc k + n) × (suc k ≤ j) × ((10 ^ j) % d ≡ 0)) → (j < k + suc n) × (k ≤ j) × ((10 ^ j) % d ≡ 0)
    by_test true h e r = let same : k ≡ j = cc in (omega (arith, same), omega (arith, same), subst (λ i. (10 ^ i) % d ≡ 0) same (h refl))
    by_test false h e r = let i = r e in (omega (arith, i.0), omega (arith, i.1), i.2)

-- ---- appending
pub appends-zero : {A : Type 0} (s : String A) → Appends s s []
appends-zero s = record { bytes = sym (append-nil (string_bytes s)); len = omega arith; capacity = omega arith }

pub appends-more : {A : Type 0} (r s t : String A) (xs ys : List ℕ) → Appends r s xs → Appends s t ys → Appends r t (xs ++ ys)
appends-more r s t xs ys h k = record {
  bytes = k.bytes ∙ ap (λ b. b ++ ys) h.bytes ∙ append_assoc (string_bytes r) xs ys;
  len = omega (arith, h.len, k.len, length-append xs ys);
  capacity = omega (arith, h.capacity, k.capacity);
}
