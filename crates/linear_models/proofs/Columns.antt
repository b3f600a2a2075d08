-- From decisions to columns and back.
use Rattle.std.proofs.Common.{◌≡◌, ℕ, zero, suc, Bool, true, false, refl, sym, ap, ap₂, ◌∙◌, List, [], ◌∷◌, map, drop, length, Option, get_or, arith, inl, inr, cond, subst}
use Rattle.fractions.specs.Rational.{ℚ, ◌+ℚ◌, ◌-ℚ◌, neg_ℚ, zero_ℚ, ◌≤ℚ◌, le_ℚ}
use Rattle.fractions.specs.Vectors.{at, AllNonNegative}
use Rattle.fractions.proofs.Order.{le_refl, neg_le, le_of_lt}
use Rattle.fractions.proofs.Tests.{le_iff, le_or_lt}
use Rattle.fractions.proofs.Laws.{neg-neg, neg-zero, add-zero, zero-add}
use Rattle.linear_models.specs.Box.{bound_at}
use Rattle.linear_models.specs.Standard.{is_split, spread}
use Rattle.linear_models.proofs.Forms.{joined}

-- x where it is positive, else 0
abbrev pub positive : ℚ → ℚ
positive x = cond (le_ℚ zero_ℚ x) x zero_ℚ

pub positive_nonneg : (x : ℚ) → zero_ℚ ≤ℚ positive x
positive_nonneg x = cases (le_ℚ zero_ℚ x) refl
  where
    cases : (b : Bool) → le_ℚ zero_ℚ x ≡ b → zero_ℚ ≤ℚ cond b x zero_ℚ
    cases true e = (le_iff zero_ℚ x).0 e
    cases false e = le_refl zero_ℚ

positive_is : (x : ℚ) → zero_ℚ ≤ℚ x → positive x ≡ x
positive_is x h = let e : le_ℚ zero_ℚ x ≡ true = (le_iff zero_ℚ x).1 h in ap (λ b. cond b x zero_ℚ) e

positive_none : (x : ℚ) → x ≤ℚ zero_ℚ → positive x ≡ zero_ℚ
positive_none x h = cases (le_ℚ zero_ℚ x) refl
  where
    both : (x : ℚ) → zero_ℚ ≤ℚ x → x ≤ℚ zero_ℚ → x ≡ zero_ℚ
    both x h k = Rattle.fractions.proofs.Order.le_antisymm x zero_ℚ k h

    cases : (b : Bool) → le_ℚ zero_ℚ x ≡ b → cond b x zero_ℚ ≡ zero_ℚ
    cases true e = both x ((le_iff zero_ℚ x).0 e) h
    cases false e = refl

pub parts_of : (x : ℚ) → positive x -ℚ positive (neg_ℚ x) ≡ x
parts_of x = elim (le_or_lt zero_ℚ x) [
  | inl h ↦ ap₂ (λ s t. s -ℚ t) (positive_is x h) (positive_none (neg_ℚ x) (rw neg-zero at (neg_le _ _ h))) ∙ ap (λ t. x +ℚ t) neg-zero ∙ add-zero x
  | inr h ↦ ap₂ (λ s t. s -ℚ t) (positive_none x (le_of_lt _ _ h)) (positive_is (neg_ℚ x) (rw neg-zero at (neg_le _ _ (le_of_lt _ _ h)))) ∙ zero-add _ ∙ neg-neg x
]

-- the columns of an assignment
abbrev pub parted : List Bool → List ℚ → List ℚ
parted [] a = []
parted (false ∷ splits) a = at a 0 ∷ parted splits (drop 1 a)
parted (true ∷ splits) a = positive (at a 0) ∷ positive (neg_ℚ (at a 0)) ∷ parted splits (drop 1 a)

pub length-parted : (splits : List Bool) (c : ℕ → ℚ) (a : List ℚ) → length (parted splits a) ≡ length (spread splits c)
length-parted [] c a = refl
length-parted (false ∷ splits) c a = ap suc (length-parted splits (λ j. c (suc j)) (drop 1 a))
length-parted (true ∷ splits) c a = ap (λ n. suc (suc n)) (length-parted splits (λ j. c (suc j)) (drop 1 a))

pub joined-parted : (splits : List Bool) (a : List ℚ) → length a ≡ length splits → joined splits (parted splits a) ≡ a
joined-parted [] [] e = refl
joined-parted [] (x ∷ a) e = absurd (omega arith)
joined-parted (s ∷ splits) [] e = absurd (omega arith)
joined-parted (false ∷ splits) (x ∷ a) e = ap (λ t. x ∷ t) (joined-parted splits a (omega arith))
joined-parted (true ∷ splits) (x ∷ a) e = ap₂ ◌∷◌ (parts_of x) (joined-parted splits a (omega arith))

at-drop : (a : List ℚ) (i : ℕ) → at (drop 1 a) i ≡ at a (suc i)
at-drop [] i = refl
at-drop (x ∷ a) i = refl

-- decisions with one column aren't negative
abbrev pub AreNonNegative : List Bool → List ℚ → Type 0
AreNonNegative splits a = (i : ℕ) → get_or splits i true ≡ false → zero_ℚ ≤ℚ at a i

pub signs_parted : (splits : List Bool) (a : List ℚ) → AreNonNegative splits a → AllNonNegative (parted splits a)
signs_parted [] a h = tt
signs_parted (false ∷ splits) a h = (h 0 refl, signs_parted splits (drop 1 a) (λ i e. subst (λ t. zero_ℚ ≤ℚ t) (sym (at-drop a i)) (h (suc i) e)))
signs_parted (true ∷ splits) a h =
    (positive_nonneg _, (positive_nonneg _, signs_parted splits (drop 1 a) (λ i e. subst (λ t. zero_ℚ ≤ℚ t) (sym (at-drop a i)) (h (suc i) e))))

drop_nonnegative : (y : List ℚ) → AllNonNegative y → AllNonNegative (drop 1 y)
drop_nonnegative [] h = tt
drop_nonnegative (x ∷ y) h = h.1

at_nonnegative : (y : List ℚ) (i : ℕ) → AllNonNegative y → zero_ℚ ≤ℚ at y i
at_nonnegative [] i h = le_refl zero_ℚ
at_nonnegative (x ∷ y) zero h = h.0
at_nonnegative (x ∷ y) (suc i) h = at_nonnegative y i h.1

drop_two : (y : List ℚ) → AllNonNegative y → AllNonNegative (drop 2 y)
drop_two [] h = tt
drop_two (x ∷ []) h = tt
drop_two (x ∷ z ∷ y) h = h.1.1

pub signs_joined : (splits : List Bool) (y : List ℚ) → AllNonNegative y → AreNonNegative splits (joined splits y)
signs_joined [] y h i e = le_refl zero_ℚ
signs_joined (false ∷ splits) y h zero e = at_nonnegative y 0 h
signs_joined (false ∷ splits) y h (suc i) e = signs_joined splits (drop 1 y) (drop_nonnegative y h) i e
signs_joined (true ∷ splits) y h zero e = cc
signs_joined (true ∷ splits) y h (suc i) e = signs_joined splits (drop 2 y) (drop_two y h) i e

-- the columns of a box
pub split_at : (ls : List (Option ℚ)) (i : ℕ) → get_or (map is_split ls) i true ≡ is_split (bound_at ls i)
split_at [] i = refl
split_at (l ∷ ls) zero = refl
split_at (l ∷ ls) (suc i) = split_at ls i
