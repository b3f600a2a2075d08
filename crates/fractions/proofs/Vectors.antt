-- Sums and dot products of lists.
use Rattle.std.proofs.Common.{◌≡◌, ℕ, zero, suc, refl, sym, ap, ap₂, ◌∙◌, List, [], ◌∷◌, ◌++◌}
use Rattle.fractions.specs.Rational.{ℚ, ◌+ℚ◌, ◌*ℚ◌, zero_ℚ, one_ℚ}
use Rattle.fractions.specs.Vectors.{dot, plus, times, at, without, only, sum_ℚ}
use Rattle.fractions.proofs.Laws.{ring_laws, add_assoc, mul-zero, add-zero, zero-add, mul_comm, zero-mul}
use Rattle.fractions.proofs.Quote.{quotes, by_equation}

pub dot-nil : (xs : List ℚ) → dot xs [] ≡ zero_ℚ
dot-nil [] = refl
dot-nil (x ∷ xs) = refl

pub dot_comm : (xs ys : List ℚ) → dot xs ys ≡ dot ys xs
dot_comm [] [] = refl
dot_comm [] (y ∷ ys) = refl
dot_comm (x ∷ xs) [] = refl
dot_comm (x ∷ xs) (y ∷ ys) = ap₂ ◌+ℚ◌ (mul_comm x y) (dot_comm xs ys)

pub dot-plus : (xs ys zs : List ℚ) → dot (plus xs ys) zs ≡ dot xs zs +ℚ dot ys zs
dot-plus [] ys zs = sym (zero-add (dot ys zs))
dot-plus (x ∷ xs) [] zs = sym (add-zero (dot (x ∷ xs) zs))
dot-plus (x ∷ xs) (y ∷ ys) [] = sym (add-zero zero_ℚ)
dot-plus (x ∷ xs) (y ∷ ys) (z ∷ zs) = ap (λ t. (x +ℚ y) *ℚ z +ℚ t) (dot-plus xs ys zs) ∙ regrouped x y z _ _
  where
    regrouped : (x y z p q : ℚ) → (x +ℚ y) *ℚ z +ℚ (p +ℚ q) ≡ (x *ℚ z +ℚ p) +ℚ (y *ℚ z +ℚ q)
    regrouped x y z p q = simp ring_laws

pub dot-times : (k : ℚ) (xs ys : List ℚ) → dot (times k xs) ys ≡ k *ℚ dot xs ys
dot-times k [] ys = sym (mul-zero k)
dot-times k (x ∷ xs) [] = sym (mul-zero k)
dot-times k (x ∷ xs) (y ∷ ys) = ap (λ t. k *ℚ x *ℚ y +ℚ t) (dot-times k xs ys) ∙ regrouped k x y _
  where
    regrouped : (k x y p : ℚ) → k *ℚ x *ℚ y +ℚ k *ℚ p ≡ k *ℚ (x *ℚ y +ℚ p)
    regrouped k x y p = simp ring_laws

pub dot-without : (a x : List ℚ) (i : ℕ) → dot a x ≡ dot (without a i) x +ℚ at a i *ℚ at x i
dot-without [] x i = simp ring_laws
dot-without (c ∷ a) [] i = at_end i
  where
    at_end : (i : ℕ) → zero_ℚ ≡ dot (without (c ∷ a) i) [] +ℚ at (c ∷ a) i *ℚ zero_ℚ
    at_end zero = simp ring_laws
    at_end (suc i) = simp ring_laws
dot-without (c ∷ a) (v ∷ x) zero = regrouped (c *ℚ v) v (dot a x)
  where
    regrouped : (p v q : ℚ) → p +ℚ q ≡ (zero_ℚ *ℚ v +ℚ q) +ℚ p
    regrouped p v q = simp ring_laws
dot-without (c ∷ a) (v ∷ x) (suc i) = ap (λ t. c *ℚ v +ℚ t) (dot-without a x i) ∙ sym (add_assoc _ _ _)

pub dot-only : (i : ℕ) (r : ℚ) (x : List ℚ) → dot (only i r) x ≡ r *ℚ at x i
dot-only zero r [] = sym (mul-zero r)
dot-only zero r (y ∷ x) = add-zero (r *ℚ y)
dot-only (suc i) r [] = sym (mul-zero r)
dot-only (suc i) r (y ∷ x) = ap (λ t. t +ℚ dot (only i r) x) (zero-mul y) ∙ zero-add _ ∙ dot-only i r x

pub sum-append : (xs ys : List ℚ) → sum_ℚ (xs ++ ys) ≡ sum_ℚ xs +ℚ sum_ℚ ys
sum-append [] ys = sym (zero-add (sum_ℚ ys))
sum-append (x ∷ xs) ys = ap (λ t. x +ℚ t) (sum-append xs ys) ∙ sym (add_assoc _ _ _)

pub sum-times : (k : ℚ) (xs : List ℚ) → sum_ℚ (times k xs) ≡ k *ℚ sum_ℚ xs
sum-times k [] = sym (mul-zero k)
sum-times k (x ∷ xs) =
    by_equation one_ℚ (sum-times k xs) (k ∷ x ∷ sum_ℚ xs ∷ sum_ℚ (times k xs) ∷ []) (search quotes depth 20) (search quotes depth 20) refl

pub sum-plus : (xs ys : List ℚ) → sum_ℚ (plus xs ys) ≡ sum_ℚ xs +ℚ sum_ℚ ys
sum-plus [] ys = sym (zero-add (sum_ℚ ys))
sum-plus (x ∷ xs) [] = sym (add-zero _)
sum-plus (x ∷ xs) (y ∷ ys) =
    by_equation one_ℚ (sum-plus xs ys) (x ∷ y ∷ sum_ℚ xs ∷ sum_ℚ ys ∷ sum_ℚ (plus xs ys) ∷ []) (search quotes depth 20) (search quotes depth 20) refl
