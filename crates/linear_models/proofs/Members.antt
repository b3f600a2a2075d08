-- Lists of numbers of decisions, and what holds of those that they have.
use Rattle.std.proofs.Common.{◌≡◌, ℕ, zero, suc, ◌+◌, ◌<◌, ◌≤◌, Bool, true, false, ◌||◌, refl, sym, ap, List, [], ◌∷◌, cond, eqb, subst, arith, ◌⊎◌, inl, inr, get_or, map}
use Rattle.std.specs.Prelude.{filter}
use Rattle.std.specs.List.{AllByRecursion, range_with_len}
use Rattle.std.proofs.lemmas.Bool.{eqb-true, eq-eqb}
use Rattle.std.proofs.lemmas.List.{get_or_past}
use Rattle.std.proofs.lemmas.List.FromFn.{get_or-map-range_with_len, length-map-range_with_len}
use Rattle.linear_models.specs.Statement.{is_in}

or_is : (a b : Bool) → (a || b) ≡ true → (a ≡ true) ⊎ (b ≡ true)
or_is true b e = inl refl
or_is false b e = inr e

pub or_left : (a b : Bool) → a ≡ true → (a || b) ≡ true
or_left a b e = ap (λ t. t || b) e

pub or_right : (a b : Bool) → b ≡ true → (a || b) ≡ true
or_right true b e = refl
or_right false b e = e

pub or_cases : (a b : Bool) → (a || b) ≡ true → (a ≡ true) ⊎ (b ≡ true)
or_cases = or_is

-- what holds of each element holds of one that is in the list
pub member_has : (P : ℕ → Type 0) (js : List ℕ) (j : ℕ) → AllByRecursion P js → is_in j js ≡ true → P j
member_has P [] j h e = cc
member_has P (i ∷ js) j h e = cases (or_is (eqb i j) (is_in j js) e) (λ q. member_has P js j h.1 q)
  where
    cases : (eqb i j ≡ true) ⊎ (is_in j js ≡ true) → (is_in j js ≡ true → P j) → P j
    cases (inl q) f = subst P (eqb-true i j q) h.0
    cases (inr q) f = f q

pub from_members : (P : ℕ → Type 0) (n : ℕ) (js : List ℕ) → AllByRecursion (λ j. j < n) js → ((j : ℕ) → j < n → is_in j js ≡ true → P j) → AllByRecursion P js
from_members P n [] l h = tt
from_members P n (i ∷ js) l h = (h i l.0 (or_left _ _ (eq-eqb i i refl)), from_members P n js l.1 (λ j k e. h j k (or_right (eqb i j) _ e)))

-- ---- the numbers of a range that pass a test
kept : (P : ℕ → Type 0) (i : ℕ) (b : Bool) (js : List ℕ) → (b ≡ true → P i) → AllByRecursion P js → AllByRecursion P (cond b (i ∷ js) js)
kept P i true js h a = (h refl, a)
kept P i false js h a = a

unkept : (P : ℕ → Type 0) (i : ℕ) (b : Bool) (js : List ℕ) → AllByRecursion P (cond b (i ∷ js) js) → (b ≡ true → P i) × AllByRecursion P js
unkept P i true js a = (λ e. a.0, a.1)
unkept P i false js a = (λ e. cc, a)

pub filter_back : (P : ℕ → Type 0) (p : ℕ → Bool) (k n : ℕ) → ((i : ℕ) → i < k + n → p i ≡ true → P i) → AllByRecursion P (filter p (range_with_len k n))
filter_back P p k zero h = tt
filter_back P p k (suc n) h = kept P k (p k) (filter p (range_with_len (k + 1) n)) (h k (omega arith)) (filter_back P p (k + 1) n (λ i l. h i (omega arith)))

pub filter_there : (P : ℕ → Type 0) (p : ℕ → Bool) (k n : ℕ) → AllByRecursion P (filter p (range_with_len k n)) → (i : ℕ) → k ≤ i → i < k + n → p i ≡ true → P i
filter_there P p k zero a i l m e = absurd (omega arith)
filter_there P p k (suc n) a i l m e =
    let u = unkept P k (p k) (filter p (range_with_len (k + 1) n)) a in cases (first i k l) u.0 (λ q. filter_there P p (k + 1) n u.1 i q (omega arith) e)
  where
    first : (i k : ℕ) → k ≤ i → (i ≡ k) ⊎ (k + 1 ≤ i)
    first i k l = grind arith

    cases : (i ≡ k) ⊎ (k + 1 ≤ i) → (p k ≡ true → P k) → (k + 1 ≤ i → P i) → P i
    cases (inl q) h f = subst P (sym q) (h (subst (λ t. p t ≡ true) q e))
    cases (inr q) h f = f q

-- ---- a list made by a function of the number
pub made_at : {X : Type 0} (f : ℕ → X) (n j : ℕ) (d : X) → j < n → get_or (map f (range_with_len 0 n)) j d ≡ f j
made_at f n j d h = get_or-map-range_with_len f 0 n j j d h (omega arith)

pub made_past : {X : Type 0} (f : ℕ → X) (n j : ℕ) (d : X) → n ≤ j → get_or (map f (range_with_len 0 n)) j d ≡ d
made_past f n j d h = get_or_past (map f (range_with_len 0 n)) j d (omega (arith, length-map-range_with_len f 0 n))

pub below_or_not : (j n : ℕ) → (j < n) ⊎ (n ≤ j)
below_or_not j n = grind arith
