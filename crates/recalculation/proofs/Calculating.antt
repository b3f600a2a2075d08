-- Calculations behind one another whose narrow answers are the same.
use Rattle.std.proofs.Common.{◌≡◌, List, [], ◌∷◌, refl, sym, ap, ◌∙◌, Option, Some, None}
use Rattle.std.specs.Option.{option_and_then, option_map}
use Rattle.calculations.specs.Calculation.{Calculation, narrow, followed_by, turned_into, for_each}
use Rattle.calculations.proofs.CalculationLaws.{narrow-followed_by, narrow-turned_into}
use Rattle.recalculation.specs.Looks.{both}

-- the answers are the same, and then those of what follows
pub behind : {A B : Type 0} (c d : Calculation A) (f g : A → Calculation B) → narrow c ≡ narrow d → ((a : A) → narrow d ≡ Some a → narrow (f a) ≡ narrow (g a))
    → narrow (followed_by c f) ≡ narrow (followed_by d g)
behind {A} c d f g h k = narrow-followed_by c f ∙ ap (option_and_then (λ a. narrow (f a))) h ∙ along (narrow d) k ∙ sym (narrow-followed_by d g)
  where
    along : (o : Option A) → ((a : A) → o ≡ Some a → narrow (f a) ≡ narrow (g a)) → option_and_then (λ a. narrow (f a)) o ≡ option_and_then (λ a. narrow (g a)) o
    along None k = refl
    along (Some a) k = k a refl

-- the same of what follows
pub behind_same : {A B : Type 0} (c d : Calculation A) (f : A → Calculation B) → narrow c ≡ narrow d → narrow (followed_by c f) ≡ narrow (followed_by d f)
behind_same c d f h = behind c d f f h (λ a e. refl)

-- an answer turned into another
pub turned_same : {A B : Type 0} (f : A → B) (c d : Calculation A) → narrow c ≡ narrow d → narrow (turned_into f c) ≡ narrow (turned_into f d)
turned_same f c d h = narrow-turned_into f c ∙ ap (option_map f) h ∙ sym (narrow-turned_into f d)

-- the answers of calculations in their order
pub in_order : {A : Type 0} (c : Calculation A) (cs : List (Calculation A)) → narrow (for_each (λ c. c) (c ∷ cs)) ≡ both (narrow c) (narrow (for_each (λ c. c) cs))
in_order {A} c cs = narrow-followed_by c (λ y. turned_into (λ ys. y ∷ ys) (for_each (λ c. c) cs)) ∙ then_others (narrow c)
  where
    joined : (y : A) (o : Option (List A)) → option_map (λ ys. y ∷ ys) o ≡ both (Some y) o
    joined y None = refl
    joined y (Some ys) = refl

    then_others : (o : Option A) → option_and_then (λ y. narrow (turned_into (λ ys. y ∷ ys) (for_each (λ c. c) cs))) o ≡ both o (narrow (for_each (λ c. c) cs))
    then_others None = refl
    then_others (Some y) = narrow-turned_into (λ ys. y ∷ ys) (for_each (λ c. c) cs) ∙ joined y (narrow (for_each (λ c. c) cs))

-- ---- a list of answers in which one is another
module _ {A B : Type 0} (f : List A → Option B) (x y : A) where
  -- the first
  pub first_differs : (others : Option (List A)) → ((xs : List A) → others ≡ Some xs → f (x ∷ xs) ≡ f (y ∷ xs))
      → option_and_then f (both (Some x) others) ≡ option_and_then f (both (Some y) others)
  first_differs None h = refl
  first_differs (Some xs) h = h xs refl

  -- the second
  pub second_differs : (one : Option A) (others : Option (List A)) → ((a : A) (xs : List A) → both one others ≡ Some (a ∷ xs) → f (a ∷ x ∷ xs) ≡ f (a ∷ y ∷ xs))
      → option_and_then f (both one (both (Some x) others)) ≡ option_and_then f (both one (both (Some y) others))
  second_differs None None h = refl
  second_differs None (Some xs) h = refl
  second_differs (Some a) None h = refl
  second_differs (Some a) (Some xs) h = h a xs refl

  -- the last of three
  pub third_differs : (one other : Option A) → ((a b : A) → both one (both other (Some [])) ≡ Some (a ∷ b ∷ []) → f (a ∷ b ∷ x ∷ []) ≡ f (a ∷ b ∷ y ∷ []))
      → option_and_then f (both one (both other (Some (x ∷ [])))) ≡ option_and_then f (both one (both other (Some (y ∷ []))))
  third_differs None None h = refl
  third_differs None (Some b) h = refl
  third_differs (Some a) None h = refl
  third_differs (Some a) (Some b) h = h a b refl
