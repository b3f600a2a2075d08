-- Facts on each element of a list, and on tests.
use Rattle.std.proofs.Common.{◌≡◌, Bool, true, false, ◌&&◌, List, [], ◌∷◌, ◌++◌, refl, ap, ◌∙◌}
use Rattle.std.specs.Prelude.{◌||◌, map}
use Rattle.std.specs.List.{AllByRecursion}

-- two tests that pass
pub both : (p q : Bool) → p ≡ true → q ≡ true → (p && q) ≡ true
both p q s t = ap (λ x. x && q) s ∙ t

-- the first of two that pass
pub first_true : (p q : Bool) → (p && q) ≡ true → p ≡ true
first_true true q h = refl
first_true false q h = h

-- the second of two that pass
pub second_true : (p q : Bool) → (p && q) ≡ true → q ≡ true
second_true true q h = h
second_true false q h = cc

-- one of two that passes
pub either_first : (p q : Bool) → p ≡ true → (p || q) ≡ true
either_first p q h = ap (λ x. x || q) h

pub either_second : (p q : Bool) → q ≡ true → (p || q) ≡ true
either_second true q h = refl
either_second false q h = h

module _ {A : Type 0} where
  -- what holds of each element of two lists
  pub each_append : (P : A → Type 0) (xs ys : List A) → AllByRecursion P xs → AllByRecursion P ys → AllByRecursion P (xs ++ ys)
  each_append P [] ys h k = k
  each_append P (x ∷ xs) ys h k = (h.0, each_append P xs ys h.1 k)

  -- of each of the first
  pub each_left : (P : A → Type 0) (xs ys : List A) → AllByRecursion P (xs ++ ys) → AllByRecursion P xs
  each_left P [] ys h = tt
  each_left P (x ∷ xs) ys h = (h.0, each_left P xs ys h.1)

  -- of each of the second
  pub each_right : (P : A → Type 0) (xs ys : List A) → AllByRecursion P (xs ++ ys) → AllByRecursion P ys
  each_right P [] ys h = h
  each_right P (x ∷ xs) ys h = each_right P xs ys h.1

  -- what follows from it
  pub each_weaker : (P Q : A → Type 0) → ((x : A) → P x → Q x) → (xs : List A) → AllByRecursion P xs → AllByRecursion Q xs
  each_weaker P Q w [] h = tt
  each_weaker P Q w (x ∷ xs) h = (w x h.0, each_weaker P Q w xs h.1)

  -- two functions that are alike at each element
  pub each_alike : {B : Type 0} (f g : A → B) (xs : List A) → AllByRecursion (λ x. f x ≡ g x) xs → map f xs ≡ map g xs
  each_alike f g [] h = refl
  each_alike {B} f g (x ∷ xs) h = let e = each_alike f g xs h.1 in λ i. (h.0 i) ∷ (e i)
