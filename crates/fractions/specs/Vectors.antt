-- Lists of fractions as vectors: what a list lacks is 0.
use Rattle.std.specs.Prelude.{ℕ, zero, suc, List, [], ◌∷◌, slice_index_or}
use Rattle.fractions.specs.Rational.{ℚ, ◌+ℚ◌, ◌*ℚ◌, ◌≤ℚ◌, zero_ℚ}

-- the sum of a list
abbrev pub sum_ℚ : List ℚ → ℚ
sum_ℚ [] = zero_ℚ
sum_ℚ (x ∷ xs) = x +ℚ sum_ℚ xs

-- the sum of the products
abbrev pub dot : List ℚ → List ℚ → ℚ
dot [] ys = zero_ℚ
dot (x ∷ xs) [] = zero_ℚ
dot (x ∷ xs) (y ∷ ys) = x *ℚ y +ℚ dot xs ys

-- the sum, place by place
abbrev pub plus : List ℚ → List ℚ → List ℚ
plus [] ys = ys
plus (x ∷ xs) [] = x ∷ xs
plus (x ∷ xs) (y ∷ ys) = (x +ℚ y) ∷ plus xs ys

-- each element times k
abbrev pub times : ℚ → List ℚ → List ℚ
times k [] = []
times k (x ∷ xs) = (k *ℚ x) ∷ times k xs

-- the element at a place, and 0 past the end
abbrev pub at : List ℚ → ℕ → ℚ
at xs i = slice_index_or xs i zero_ℚ

-- the list with a value at a place
abbrev pub with_at : List ℚ → ℕ → ℚ → List ℚ
with_at [] zero k = k ∷ []
with_at [] (suc i) k = zero_ℚ ∷ with_at [] i k
with_at (x ∷ xs) zero k = k ∷ xs
with_at (x ∷ xs) (suc i) k = x ∷ with_at xs i k

-- the list with 0 at a place
abbrev pub without : List ℚ → ℕ → List ℚ
without [] i = []
without (x ∷ xs) zero = zero_ℚ ∷ xs
without (x ∷ xs) (suc i) = x ∷ without xs i

-- the list that is k at a place and 0 elsewhere
abbrev pub only : ℕ → ℚ → List ℚ
only zero k = k ∷ []
only (suc i) k = zero_ℚ ∷ only i k

-- no element is below 0
abbrev pub AllNonNegative : List ℚ → Type 0
AllNonNegative [] = Unit {0}
AllNonNegative (x ∷ xs) = zero_ℚ ≤ℚ x × AllNonNegative xs

-- each element is at most the other list's
abbrev pub EachAtMost : List ℚ → List ℚ → Type 0
EachAtMost [] [] = Unit {0}
EachAtMost [] (y ∷ ys) = zero_ℚ ≤ℚ y × EachAtMost [] ys
EachAtMost (x ∷ xs) [] = x ≤ℚ zero_ℚ × EachAtMost xs []
EachAtMost (x ∷ xs) (y ∷ ys) = x ≤ℚ y × EachAtMost xs ys
