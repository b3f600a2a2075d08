-- Steps of loops.
use Rattle.std.proofs.Common.{◌≡◌, ◌∙◌, ◌++◌, ◌<◌, ◌≤◌, ◌+◌, ℕ, suc, zero, refl, ap, List, [], ◌∷◌, map, length, take, get_or, arith}
use Rattle.std.specs.Prelude.{zip}

step : {A B C : Type 0} (f : A × B → C) (xs : List A) (ys : List B) (k : ℕ) (x : A) (y : B) → k < length xs → k < length ys
    → map f (zip (take (suc k) xs) (take (suc k) ys)) ≡ map f (zip (take k xs) (take k ys)) ++ f (get_or xs k x, get_or ys k y) ∷ []
step f [] ys k x y l m = absurd (omega (arith, l))
step f (a ∷ xs) [] k x y l m = absurd (omega (arith, m))
step f (a ∷ xs) (b ∷ ys) zero x y l m = refl
step f (a ∷ xs) (b ∷ ys) (suc k) x y l m = ap (λ rest. f (a, b) ∷ rest) (step f xs ys k x y (omega (arith, l)) (omega (arith, m)))

-- one line more
pub zip_more : {A B C : Type 0} (f : A × B → C) (xs : List A) (ys : List B) (k : ℕ) (x : A) (y : B) → k < length xs → k < length ys
    → map f (zip (take (k + 1) xs) (take (k + 1) ys)) ≡ map f (zip (take k xs) (take k ys)) ++ f (get_or xs k x, get_or ys k y) ∷ []
zip_more f xs ys k x y l m =
    let e : k + 1 ≡ suc k = omega arith in
    ap (λ n. map f (zip (take n xs) (take n ys))) e ∙ step f xs ys k x y l m

-- the fronts behind all places are the whole lists
pub zip_all : {A B : Type 0} (k : ℕ) (xs : List A) (ys : List B) → length xs ≤ k → zip (take k xs) (take k ys) ≡ zip xs ys
zip_all zero [] ys h = refl
zip_all (suc k) [] ys h = refl
zip_all zero (x ∷ xs) ys h = absurd (omega (arith, h))
zip_all (suc k) (x ∷ xs) [] h = refl
zip_all (suc k) (x ∷ xs) (y ∷ ys) h = ap (λ rest. (x, y) ∷ rest) (zip_all k xs ys (omega (arith, h)))
