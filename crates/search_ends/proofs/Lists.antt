-- Lists of numbers that are given place by place.
use Rattle.std.proofs.Common.{◌≡◌, ℕ, ◌+◌, ◌<◌, List, length, arith, get_or, set, sym, ◌∙◌, ◌⊎◌, inl, inr, get_or-set_same, get_or-set_other, subst, suc, zero, [], ◌∷◌, map, refl}
use Rattle.std.proofs.lemmas.List.{ext_get_or}
use Rattle.fractions.specs.Rational.{ℚ, zero_ℚ}
use Rattle.fractions.specs.Vectors.{at}

pub same_list : (xs ys : List ℚ) → length xs ≡ length ys → ((i : ℕ) → i < length xs → at xs i ≡ at ys i) → xs ≡ ys
same_list xs ys e h = ext_get_or zero_ℚ xs ys e h

-- one number more is written
pub written : (into target : List ℚ) (k : ℕ) (r : ℚ) → k < length into → ((i : ℕ) → i < k → at into i ≡ at target i) → r ≡ at target k → (i : ℕ) → i < k + 1 → at (set into k r) i ≡ at target i
written into target k r l h e i m = elim (or_last i k m) [
  | inl b ↦ get_or-set_other into k i r zero_ℚ (λ q. omega (arith, b, q)) ∙ h i b
  | inr q ↦ subst (λ (j : ℕ). at (set into k r) j ≡ at target j) (sym q) (get_or-set_same into k r zero_ℚ l ∙ e)
]
  where
    or_last : (i k : ℕ) → i < k + 1 → (i < k) ⊎ (i ≡ k)
    or_last i k l = grind arith

-- what a list's element is made into
pub at_map : {X : Type 0} (f : X → ℚ) (xs : List X) (k : ℕ) (d : X) → k < length xs → f (get_or xs k d) ≡ at (map f xs) k
at_map f [] k d l = absurd (omega (arith, l))
at_map f (x ∷ xs) zero d l = refl
at_map f (x ∷ xs) (suc k) d l = at_map f xs k d (omega (arith, l))
