-- Lists compared item by item.
use Rattle.std.proofs.Common.{◌≡◌, refl, ap, ◌∙◌, ℕ, suc, ◌+◌, ◌<◌, Bool, true, false, ◌&&◌, List, [], ◌∷◌, length, drop, get_or}
use Rattle.sheet_model.proofs.Spreading.{rest_from}

-- a comparison that goes through two lists by a test of their items
pub record IsPairwise {A : Type 0} (test : A → A → Bool) (same : List A → List A → Bool) : Type 0 where
  pub at_end : same [] [] ≡ true
  pub first_longer : (x : A) (xs : List A) → same (x ∷ xs) [] ≡ false
  pub second_longer : (y : A) (ys : List A) → same [] (y ∷ ys) ≡ false
  pub item : (x y : A) (xs ys : List A) → same (x ∷ xs) (y ∷ ys) ≡ (test x y && same xs ys)

and_false : (b : Bool) → (b && false) ≡ false
and_false true = refl
and_false false = refl

-- lists of different lengths
pub other_length : {A : Type 0} (test : A → A → Bool) (same : List A → List A → Bool) → IsPairwise test same → (xs ys : List A) → (length xs ≡ length ys → ⊥) → same xs ys ≡ false
other_length test same p [] [] n = absurd (n refl)
other_length test same p (x ∷ xs) [] n = p.first_longer x xs
other_length test same p [] (y ∷ ys) n = p.second_longer y ys
other_length test same p (x ∷ xs) (y ∷ ys) n =
    p.item x y xs ys ∙ ap (λ b. test x y && b) (other_length test same p xs ys (λ e. n (ap suc e))) ∙ and_false (test x y)

-- from a place on, by the items there
pub from_place : {A : Type 0} (test : A → A → Bool) (same : List A → List A → Bool) → IsPairwise test same → (xs ys : List A) (i : ℕ) (x y : A) → i < length xs → i < length ys
    → x ≡ get_or xs i x → y ≡ get_or ys i y → same (drop i xs) (drop i ys) ≡ (test x y && same (drop (i + 1) xs) (drop (i + 1) ys))
from_place test same p xs ys i x y h k e f =
    ap (λ l. same l (drop i ys)) (rest_from xs i x h e) ∙ ap (λ l. same (x ∷ drop (i + 1) xs) l) (rest_from ys i y k f) ∙ p.item x y (drop (i + 1) xs) (drop (i + 1) ys)

-- an item that differs
pub differs_at : (whole b rest : Bool) → whole ≡ (b && rest) → b ≡ false → whole ≡ false
differs_at whole b rest e f = e ∙ ap (λ t. t && rest) f

-- an item that is the same
pub same_at : (whole b rest : Bool) → whole ≡ (b && rest) → b ≡ true → whole ≡ rest
same_at whole b rest e f = e ∙ ap (λ t. t && rest) f
