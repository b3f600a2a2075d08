-- A calculation for each place, row by row.
use Rattle.std.proofs.Common.{◌≡◌, ◌<◌, ◌≤◌, ◌+◌, ◌-◌, refl, sym, ap, ◌∙◌, append_assoc, append-nil, ℕ, suc, List, [], ◌∷◌, ◌++◌, length, map, Option, Some, None, Result, Ok, Err}
use Rattle.std.specs.Prelude.{flat_map, option_map, MatchResult}
use Rattle.std.specs.List.{range_with_len}
use Rattle.std.specs.Option.{option_and_then}
use Rattle.std.specs.Result.{IsErrAnd, result_map_both}
use Rattle.calculations.specs.Calculation.{Calculation, for_each, narrow, turned_into}
use Rattle.calculations.proofs.CalculationLaws.{behind_answers, narrow-followed_by, narrow-turned_into}
use Rattle.sheet_model.specs.Answers.{Answers}
use Rattle.sheet_model.specs.declared.stop.FuncStop.{FuncStop}
use Rattle.sheet_model.proofs.Spreading.{each-one_more, each-stops, stopped, stopped_items}
use Rattle.sheet_funcs.proofs.Ranges.{from_below, from_end}

-- the first, and then the others
abbrev first_and_others : {B : Type 0} → Option B → Option (List B) → Option (List B)
first_and_others first others = option_and_then (λ y. option_map (λ ys. y ∷ ys) others) first

each-first : {A B : Type 0} (f : A → Calculation B) (x : A) (xs : List A) → narrow (for_each f (x ∷ xs)) ≡ first_and_others (narrow (f x)) (narrow (for_each f xs))
each-first f x xs = narrow-followed_by (f x) (λ y. turned_into (λ ys. y ∷ ys) (for_each f xs)) ∙ turned (narrow (f x))
  where
    turned : (o : Option _) → option_and_then (λ y. narrow (turned_into (λ ys. y ∷ ys) (for_each f xs))) o ≡ first_and_others o (narrow (for_each f xs))
    turned None = refl
    turned (Some y) = narrow-turned_into (λ ys. y ∷ ys) (for_each f xs)

-- ---- two lists, one behind the other
abbrev both : {B : Type 0} → Option (List B) → Option (List B) → Option (List B)
both front others = option_and_then (λ ys. behind_answers ys others) front

first-both : {B : Type 0} (o : Option B) (front others : Option (List B)) → first_and_others o (both front others) ≡ both (first_and_others o front) others
first-both None front others = refl
first-both (Some y) None others = refl
first-both (Some y) (Some ys) None = refl
first-both (Some y) (Some ys) (Some zs) = refl

behind-nothing : {B : Type 0} (others : Option (List B)) → others ≡ behind_answers [] others
behind-nothing None = refl
behind-nothing (Some ys) = refl

each-append : {A B : Type 0} (f : A → Calculation B) (xs ys : List A) → narrow (for_each f (xs ++ ys)) ≡ both (narrow (for_each f xs)) (narrow (for_each f ys))
each-append f [] ys = behind-nothing (narrow (for_each f ys))
each-append f (x ∷ xs) ys =
    each-first f x (xs ++ ys) ∙ ap (first_and_others (narrow (f x))) (each-append f xs ys) ∙ first-both (narrow (f x)) (narrow (for_each f xs)) (narrow (for_each f ys))
    ∙ ap (λ o. both o (narrow (for_each f ys))) (sym (each-first f x xs))

behind-both : {B : Type 0} (items : List B) (front others : Option (List B)) → behind_answers items (both front others) ≡ both (behind_answers items front) others
behind-both items None others = refl
behind-both items (Some ys) None = refl
behind-both items (Some ys) (Some zs) = ap Some (sym (append_assoc items ys zs))

-- ---- row by row
abbrev rest_rows : {A : Type 0} → (ℕ → List A) → ℕ → ℕ → List A
rest_rows row i n = flat_map row (range_with_len i (n - i))

next_row : {A B : Type 0} (f : A → Calculation B) (row : ℕ → List A) (whole : Option (List B)) (items : List B) (i n : ℕ) (o : Option (List B)) → i < n
    → whole ≡ behind_answers items (narrow (for_each f (rest_rows row i n))) → behind_answers items (narrow (for_each f (row i))) ≡ o → whole ≡ both o (narrow (for_each f (rest_rows row (i + 1) n)))
next_row f row whole items i n o h all e =
    all ∙ ap (λ r. behind_answers items (narrow (for_each f (flat_map row r)))) (from_below i n h)
    ∙ ap (behind_answers items) (each-append f (row i) (rest_rows row (i + 1) n))
    ∙ behind-both items (narrow (for_each f (row i))) (narrow (for_each f (rest_rows row (i + 1) n)))
    ∙ ap (λ p. both p (narrow (for_each f (rest_rows row (i + 1) n)))) e

pub rows_go : {A B : Type 0} (f : A → Calculation B) (row : ℕ → List A) (whole : Option (List B)) (items new : List B) (i n : ℕ) → i < n
    → whole ≡ behind_answers items (narrow (for_each f (rest_rows row i n))) → behind_answers items (narrow (for_each f (row i))) ≡ Some new → whole ≡ behind_answers new (narrow (for_each f (rest_rows row (i + 1) n)))
rows_go f row whole items new i n h all e = next_row f row whole items i n (Some new) h all e

pub rows_stop : {A B T : Type 0} (f : A → Calculation B) (row : ℕ → List A) (whole : Calculation (List B)) (items : List B) (i n : ℕ) (e : FuncStop) (back : T → List B) (r : Result T FuncStop) → i < n
    → narrow whole ≡ behind_answers items (narrow (for_each f (rest_rows row i n))) → IsErrAnd r (λ s. s ≡ e) → Answers (for_each f (row i)) (Err e) → Answers whole (result_map_both back (λ s. s) r)
rows_stop f row whole items i n e back r h all is part =
    stopped_items (for_each f (row i)) whole back e r is part (λ wide. next_row f row (narrow whole) items i n None h all (ap (behind_answers items) wide))

pub rows_end : {A B : Type 0} (f : A → Calculation B) (row : ℕ → List A) (whole : Option (List B)) (items : List B) (i n : ℕ) → n ≤ i
    → whole ≡ behind_answers items (narrow (for_each f (rest_rows row i n))) → whole ≡ Some items
rows_end f row whole items i n h all = all ∙ ap (λ r. behind_answers items (narrow (for_each f (flat_map row r)))) (from_end i n h) ∙ ap Some (append-nil items)

-- ---- within a row
abbrev rest_places : {A : Type 0} → (ℕ → A) → ℕ → ℕ → List A
rest_places place i n = map place (range_with_len i (n - i))

pub places_go : {A B : Type 0} (f : A → Calculation B) (place : ℕ → A) (whole : Option (List B)) (items new : List B) (y : B) (i n : ℕ) → i < n → new ≡ items ++ y ∷ []
    → whole ≡ behind_answers items (narrow (for_each f (rest_places place i n))) → narrow (f (place i)) ≡ Some y → whole ≡ behind_answers new (narrow (for_each f (rest_places place (i + 1) n)))
places_go f place whole items new y i n h more all e =
    each-one_more f whole items _ (place i) _ y (ap (map place) (from_below i n h)) all e ∙ ap (λ front. behind_answers front (narrow (for_each f (rest_places place (i + 1) n)))) (sym more)

none_behind : {B : Type 0} (items : List B) (o : Option (List B)) → behind_answers items o ≡ None → o ≡ None
none_behind items None e = refl
none_behind items (Some ys) e = cc

pub places_stop : {A B T : Type 0} (f : A → Calculation B) (place : ℕ → A) (whole : Calculation (List B)) (old items : List B) (i n : ℕ) (e : FuncStop) (r : Result T FuncStop) (P : T → Type 0) → i < n
    → behind_answers old (narrow whole) ≡ behind_answers items (narrow (for_each f (rest_places place i n))) → IsErrAnd r (λ s. s ≡ e) → Answers (f (place i)) (Err e) → MatchResult r P (λ stop. Answers whole (Err stop))
places_stop f place whole old items i n e (Ok x) P h all is part = absurd is
places_stop f place whole old items i n e (Err s) P h all is part =
    stopped (f (place i)) whole e (Err s) is part
    (λ wide. none_behind old (narrow whole) (each-stops f (behind_answers old (narrow whole)) items _ (place i) _ (ap (map place) (from_below i n h)) all wide))

pub places_end : {A B : Type 0} (f : A → Calculation B) (place : ℕ → A) (whole : Option (List B)) (items : List B) (i n : ℕ) → n ≤ i
    → whole ≡ behind_answers items (narrow (for_each f (rest_places place i n))) → whole ≡ Some items
places_end f place whole items i n h all = all ∙ ap (λ r. behind_answers items (narrow (for_each f (map place r)))) (from_end i n h) ∙ ap Some (append-nil items)

-- ---- answers turned into others
turned-first : {B C : Type 0} (g : B → C) (o : Option B) (others : Option (List B)) → first_and_others (option_map g o) (option_map (map g) others) ≡ option_map (map g) (first_and_others o others)
turned-first g None others = refl
turned-first g (Some y) None = refl
turned-first g (Some y) (Some ys) = refl

pub each-turned : {A B C : Type 0} (g : B → C) (f : A → Calculation B) (xs : List A) → narrow (for_each (λ x. turned_into g (f x)) xs) ≡ option_map (map g) (narrow (for_each f xs))
each-turned g f [] = refl
each-turned g f (x ∷ xs) =
    each-first (λ x. turned_into g (f x)) x xs
    ∙ ap (λ o. first_and_others o (narrow (for_each (λ x. turned_into g (f x)) xs))) (narrow-turned_into g (f x))
    ∙ ap (first_and_others (option_map g (narrow (f x)))) (each-turned g f xs)
    ∙ turned-first g (narrow (f x)) (narrow (for_each f xs))
    ∙ ap (option_map (map g)) (sym (each-first f x xs))

-- ---- as many answers as places
length-first : {A B : Type 0} (o : Option B) (others : Option (List B)) (xs : List A) (ys : List B) → ((zs : List B) → others ≡ Some zs → length zs ≡ length xs) → first_and_others o others ≡ Some ys → length ys ≡ suc (length xs)
length-first None others xs ys h e = cc
length-first (Some y) None xs ys h e = cc
length-first (Some y) (Some zs) xs ys h e = let same : ys ≡ y ∷ zs = cc in ap length same ∙ ap suc (h zs refl)

pub each-length : {A B : Type 0} (f : A → Calculation B) (xs : List A) (ys : List B) → narrow (for_each f xs) ≡ Some ys → length ys ≡ length xs
each-length f [] ys e = let same : ys ≡ [] = cc in ap length same
each-length f (x ∷ xs) ys e = length-first (narrow (f x)) (narrow (for_each f xs)) xs ys (each-length f xs) (sym (each-first f x xs) ∙ e)
