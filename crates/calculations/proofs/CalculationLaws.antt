-- What is true of calculations.
use Rattle.std.proofs.Common.{◌≡◌, rules, refl, sym, ap, ◌∙◌, append_assoc, append-nil, Bool, true, false, if◌then◌else◌, List, [], ◌∷◌, ◌++◌, Option, Some, None}
use Rattle.std.specs.Option.{option_and_then, option_map}
use Rattle.calculations.specs.Calculation.{Calculation, done, after, exact, narrow, followed_by, turned_into, for_each, stays_narrow, result_of}

by_test : {A : Type 0} (b : Bool) (c : Calculation A) (answer : A) → (narrow c ≡ Some answer → exact c ≡ answer) → (if b then narrow c else None) ≡ Some answer → exact c ≡ answer
by_test true c answer go h = go h
by_test false c answer go h = search rules

-- what a calculation answers on narrow numbers is its exact answer
pub narrow-exact : {A : Type 0} (c : Calculation A) (answer : A) → narrow c ≡ Some answer → exact c ≡ answer
narrow-exact (done x) answer h = search rules
narrow-exact (after o rest) answer h = by_test (stays_narrow o) (rest (result_of o)) answer (narrow-exact (rest (result_of o)) answer) h

by_first : {A B : Type 0} (b : Bool) (c : Calculation A) (f : A → Calculation B) → narrow (followed_by c f) ≡ option_and_then (λ a. narrow (f a)) (narrow c)
    → (if b then narrow (followed_by c f) else None) ≡ option_and_then (λ a. narrow (f a)) (if b then narrow c else None)
by_first true c f h = h
by_first false c f h = refl

-- one calculation behind another
pub narrow-followed_by : {A B : Type 0} (c : Calculation A) (f : A → Calculation B) → narrow (followed_by c f) ≡ option_and_then (λ a. narrow (f a)) (narrow c)
narrow-followed_by (done x) f = refl
narrow-followed_by (after o rest) f = by_first (stays_narrow o) (rest (result_of o)) f (narrow-followed_by (rest (result_of o)) f)

-- the first operation narrow or not
turned_by_test : {A B : Type 0} (b : Bool) (f : A → B) (c : Calculation A) → narrow (turned_into f c) ≡ option_map f (narrow c)
    → (if b then narrow (turned_into f c) else None) ≡ option_map f (if b then narrow c else None)
turned_by_test true f c h = h
turned_by_test false f c h = refl

-- a calculation whose answer is turned into another
pub narrow-turned_into : {A B : Type 0} (f : A → B) (c : Calculation A) → narrow (turned_into f c) ≡ option_map f (narrow c)
narrow-turned_into f (done x) = refl
narrow-turned_into f (after o rest) = turned_by_test (stays_narrow o) f (rest (result_of o)) (narrow-turned_into f (rest (result_of o)))

-- ---- a loop that calculates for each item: the answers so far, and then those for the rest, if these are narrow
abbrev pub behind_answers : {A : Type 0} → List A → Option (List A) → Option (List A)
behind_answers front others = option_map (λ ys. front ++ ys) others

-- at the start there are no answers
pub behind-none : {A : Type 0} (others : Option (List A)) → others ≡ behind_answers [] others
behind-none None = refl
behind-none (Some ys) = refl

-- the first item, and then the others
first_item : {A B : Type 0} (f : A → Calculation B) (x : A) (xs : List A) (o : Option B) → narrow (f x) ≡ o
    → narrow (for_each f (x ∷ xs)) ≡ option_and_then (λ y. option_map (λ ys. y ∷ ys) (narrow (for_each f xs))) o
first_item f x xs o e =
    narrow-followed_by (f x) (λ y. turned_into (λ ys. y ∷ ys) (for_each f xs))
    ∙ ap (option_and_then (λ y. narrow (turned_into (λ ys. y ∷ ys) (for_each f xs)))) e
    ∙ turned o
  where
    turned : (o : Option _) → option_and_then (λ y. narrow (turned_into (λ ys. y ∷ ys) (for_each f xs))) o ≡ option_and_then (λ y. option_map (λ ys. y ∷ ys) (narrow (for_each f xs))) o
    turned None = refl
    turned (Some y) = narrow-turned_into (λ ys. y ∷ ys) (for_each f xs)

-- an answer behind those in front
one_behind : {A : Type 0} (front : List A) (y : A) (others : Option (List A)) → behind_answers front (option_map (λ ys. y ∷ ys) others) ≡ behind_answers (front ++ y ∷ []) others
one_behind front y None = refl
one_behind front y (Some ys) = ap Some (sym (append_assoc front (y ∷ []) ys))

-- one answer more
pub behind-one_more : {A B : Type 0} (f : A → Calculation B) (whole : Option (List B)) (front : List B) (x : A) (xs : List A) (y : B)
    → whole ≡ behind_answers front (narrow (for_each f (x ∷ xs))) → narrow (f x) ≡ Some y → whole ≡ behind_answers (front ++ y ∷ []) (narrow (for_each f xs))
behind-one_more f whole front x xs y h e = h ∙ ap (behind_answers front) (first_item f x xs (Some y) e) ∙ one_behind front y (narrow (for_each f xs))

-- an item whose calculation isn't narrow
pub behind-stops : {A B : Type 0} (f : A → Calculation B) (whole : Option (List B)) (front : List B) (x : A) (xs : List A)
    → whole ≡ behind_answers front (narrow (for_each f (x ∷ xs))) → narrow (f x) ≡ None → whole ≡ None
behind-stops f whole front x xs h e = h ∙ ap (behind_answers front) (first_item f x xs None e)

-- at the end the answers are all there
pub behind-end : {A B : Type 0} (f : A → Calculation B) (whole : Option (List B)) (front : List B)
    → whole ≡ behind_answers front (narrow (for_each f [])) → whole ≡ Some front
behind-end f whole front h = h ∙ ap Some (append-nil front)
