-- Lists of numbers whose places have different values.
use Rattle.std.proofs.Common.{◌≡◌, ◌↔◌, ℕ, zero, suc, ◌+◌, ◌-◌, ◌<◌, true, false, refl, sym, ap, ◌∙◌, subst, List, ◌∷◌, drop, take, length, get_or, arith, length-drop}
use Rattle.std.proofs.lemmas.Bool.{false≢true}
use Rattle.std.proofs.lemmas.List.{get_or_default, take_all}
use Rattle.linear_models.specs.Statement.{is_in}
use Rattle.linear_models.proofs.Groups.{in_at, place_of}
use Rattle.lin_model.proofs.Equal.{front}

-- no two places of the list have the same value
abbrev pub IsApart : {X : Type 0} → (ℕ → X) → List ℕ → Type 0
IsApart f js = (i k : ℕ) → i < length js → k < length js → f (get_or js i 0) ≡ f (get_or js k 0) → i ≡ k

-- some place of the list has the value
abbrev pub HasValue : {X : Type 0} → (ℕ → X) → List ℕ → X → Type 0
HasValue f js x = (k : ℕ) × (k < length js) × (f (get_or js k 0) ≡ x)

rest_apart : {X : Type 0} (f : ℕ → X) (j : ℕ) (js : List ℕ) → IsApart f (j ∷ js) → IsApart f js
rest_apart f j js h i k l m e = let q = h (suc i) (suc k) (omega (arith, l)) (omega (arith, m)) e in omega (arith, q)

all_apart : {X : Type 0} (f : ℕ → X) (j : ℕ) (js : List ℕ) → ¬ (HasValue f js (f j)) → IsApart f js → IsApart f (j ∷ js)
all_apart f j js n h zero zero l m e = refl
all_apart f j js n h zero (suc k) l m e = absurd (n (k, omega (arith, m), sym e))
all_apart f j js n h (suc i) zero l m e = absurd (n (i, omega (arith, l), e))
all_apart f j js n h (suc i) (suc k) l m e = ap suc (h i k (omega (arith, l)) (omega (arith, m)) e)

not_apart : {X : Type 0} (f : ℕ → X) (j : ℕ) (js : List ℕ) → HasValue f js (f j) → ¬ (IsApart f (j ∷ js))
not_apart f j js v h = let l = v.1 in let q = h 0 (suc v.0) (omega arith) (omega (arith, l)) (sym v.2) in absurd (omega (arith, q))

-- ---- the same at a place of the list
at_place : (js : List ℕ) (k : ℕ) → k < length js → drop k js ≡ get_or js k 0 ∷ drop (k + 1) js
at_place js k l = front js k (get_or js k 0) l (get_or_default js k 0 (get_or js k 0) l)

pub one_apart : {X : Type 0} (f : ℕ → X) (js : List ℕ) (k : ℕ) → k < length js → ¬ (HasValue f (drop (k + 1) js) (f (get_or js k 0))) → IsApart f js ↔ IsApart f (drop k js) → IsApart f js ↔ IsApart f (drop (k + 1) js)
one_apart f js k l n h =
    let d = at_place js k l in (
      λ a. rest_apart f (get_or js k 0) (drop (k + 1) js) (subst (IsApart f) d (h.0 a)),
      λ a. h.1 (subst (IsApart f) (sym d) (all_apart f (get_or js k 0) (drop (k + 1) js) n a)),
    )

pub one_not_apart : {X : Type 0} (f : ℕ → X) (js : List ℕ) (k : ℕ) → k < length js → HasValue f (drop (k + 1) js) (f (get_or js k 0)) → IsApart f js ↔ IsApart f (drop k js) → ¬ (IsApart f js)
one_not_apart f js k l v h a = not_apart f (get_or js k 0) (drop (k + 1) js) v (subst (IsApart f) (at_place js k l) (h.0 a))

-- what is behind a place
pub behind : (js : List ℕ) (k : ℕ) → take (length js - (k + 1)) (drop (k + 1) js) ≡ drop (k + 1) js
behind js k = take_all (length js - (k + 1)) (drop (k + 1) js) (omega (arith, length-drop (k + 1) js))

-- ---- the values are the numbers themselves
pub value_in : (j : ℕ) (js : List ℕ) → is_in j js ≡ true → HasValue (λ i. i) js j
value_in j js e = place_of j js e

pub no_value_in : (j : ℕ) (js : List ℕ) → is_in j js ≡ false → ¬ (HasValue (λ i. i) js j)
no_value_in j js e v = false≢true (sym e ∙ subst (λ k. is_in k js ≡ true) v.2 (in_at v.0 js v.1))
