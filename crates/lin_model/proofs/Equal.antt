-- Lists that are compared from the front.
use Rattle.std.proofs.Common.{◌≡◌, ◌↔◌, ℕ, ◌+◌, ◌<◌, sym, ap, ap₂, ◌∙◌, List, ◌∷◌, drop, length, get_or}
use Rattle.std.proofs.lemmas.List.{drop_more}

pub front : {A : Type 0} (xs : List A) (i : ℕ) (x : A) → i < length xs → x ≡ get_or xs i x → drop i xs ≡ x ∷ drop (i + 1) xs
front xs i x h e = drop_more xs i x h ∙ ap (λ y. y ∷ drop (i + 1) xs) (sym e)

firsts : {A : Type 0} {x y : A} {xs ys : List A} → x ∷ xs ≡ y ∷ ys → x ≡ y
firsts e = cc

rests : {A : Type 0} {x y : A} {xs ys : List A} → x ∷ xs ≡ y ∷ ys → xs ≡ ys
rests e = cc

-- where the elements are equal, so are the lists where their rests are
pub same_more : {A : Type 0} (xs ys : List A) (i : ℕ) (x y : A) → drop i xs ≡ x ∷ drop (i + 1) xs → drop i ys ≡ y ∷ drop (i + 1) ys → x ≡ y → (xs ≡ ys) ↔ (drop i xs ≡ drop i ys) → (xs ≡ ys) ↔ (drop (i + 1) xs ≡ drop (i + 1) ys)
same_more xs ys i x y d e q h = (
  λ p. rests (sym d ∙ h.0 p ∙ e),
  λ p. h.1 (d ∙ ap₂ ◌∷◌ q p ∙ sym e),
)

-- and where they differ, so do the lists
pub other_front : {A : Type 0} (xs ys : List A) (i : ℕ) (x y : A) → drop i xs ≡ x ∷ drop (i + 1) xs → drop i ys ≡ y ∷ drop (i + 1) ys → ¬ (x ≡ y) → ¬ (xs ≡ ys)
other_front xs ys i x y d e n p = n (firsts (sym d ∙ ap (drop i) p ∙ e))
