-- Lists by their last element.
use Rattle.std.proofs.Common.{◌≡◌, ℕ, zero, suc, refl, ap, ap₂, List, [], ◌∷◌, ◌++◌, length, take, get_or, arith}

pub same_ends : {X : Type 0} (xs ys : List X) (x y : X) → xs ++ x ∷ [] ≡ ys ++ y ∷ [] → (xs ≡ ys) × (x ≡ y)
same_ends [] [] x y e = (refl, (let h : (x ∷ []) ≡ (y ∷ []) = e in cc))
same_ends [] (z ∷ []) x y e = absurd cc
same_ends [] (z ∷ w ∷ ys) x y e = absurd cc
same_ends (z ∷ []) [] x y e = absurd cc
same_ends (z ∷ w ∷ xs) [] x y e = absurd cc
same_ends {X = X} (z ∷ xs) (w ∷ ys) x y e =
    let tails : xs ++ x ∷ [] ≡ ys ++ y ∷ [] = cc in
    let heads : z ≡ w = cc in
    let h = same_ends xs ys x y tails in
    (ap₂ (λ (v : X) (vs : List X). v ∷ vs) heads h.0, h.1)

pub last_split : {X : Type 0} (xs : List X) (d : X) (k : ℕ) → length xs ≡ suc k → xs ≡ take k xs ++ get_or xs k d ∷ []
last_split [] d k e = absurd (omega (arith, e))
last_split (x ∷ []) d zero e = refl
last_split (x ∷ []) d (suc k) e = absurd (omega (arith, e))
last_split (x ∷ y ∷ xs) d zero e = absurd (omega (arith, e))
last_split {X = X} (x ∷ y ∷ xs) d (suc k) e = ap (λ (t : List X). x ∷ t) (last_split (y ∷ xs) d k (omega (arith, e)))
