-- A trial for each place, row by row, and a grid column by column.
use Rattle.std.proofs.Common.{◌≡◌, ◌<◌, ◌≤◌, ◌+◌, ◌*◌, ◌-◌, refl, sym, ap, ◌∙◌, append_assoc, append-nil, ℕ, suc, List, [], ◌∷◌, ◌++◌, length, map, Option, Some, None, Result, Ok, Err}
use Rattle.std.specs.Prelude.{flat_map, option_map, MatchResult}
use Rattle.std.specs.List.{range_with_len}
use Rattle.std.specs.Option.{option_and_then}
use Rattle.std.specs.Result.{IsErrAnd, result_map_both}
use Rattle.std.proofs.lemmas.List.{map-append}
use Rattle.std.proofs.lemmas.Simd.{map-map}
use Rattle.std.proofs.lemmas.List.FromFn.{length-map-range_with_len}
use Rattle.calculations.specs.Calculation.{narrow}
use Rattle.sheet_funcs.specs.Arguments.{below}
use Rattle.sheet_funcs.proofs.Ranges.{from_below, from_end, length-rows}
use Rattle.form_values.specs.Grids.{Raster}
use Rattle.form_values.specs.Trials.{Trial, Refusal, Answers, and_then, each_tried, given, on_given}
use Rattle.form_values.specs.declared.refusal.OpRefusal.{OpRefusal}
use Rattle.form_table.specs.Products.{at, transposed}
use Rattle.form_areas.specs.Matrices.{column_of}
use Rattle.form_ops.proofs.Answering.{narrow-and_then}
use Rattle.form_ops.proofs.Trying.{behind_values, each-one_more, each-stops, refused_items, refused_whole, without_value}

-- ---- two lists, one behind the other
abbrev both : {B : Type 0} → Option (Result (List B) Refusal) → Option (Result (List B) Refusal) → Option (Result (List B) Refusal)
both (Some (Ok front)) others = behind_values front others
both (Some (Err r)) others = Some (Err r)
both None others = None

-- the first, and then the others
abbrev first_and_others : {B : Type 0} → Option (Result B Refusal) → Option (Result (List B) Refusal) → Option (Result (List B) Refusal)
first_and_others (Some (Ok y)) others = option_map (result_map_both (λ ys. y ∷ ys) (λ r. r)) others
first_and_others (Some (Err r)) others = Some (Err r)
first_and_others None others = None

in_front : {B : Type 0} (y : B) (o : Option (Result (List B) Refusal)) → option_and_then (λ r. narrow (on_given r (λ bs. given (y ∷ bs)))) o ≡ option_map (result_map_both (λ ys. y ∷ ys) (λ r. r)) o
in_front y None = refl
in_front y (Some (Ok ys)) = refl
in_front y (Some (Err r)) = refl

by_first : {A B : Type 0} (f : A → Trial B) (xs : List A) (o : Option (Result B Refusal))
    → option_and_then (λ r. narrow (on_given r (λ b. and_then (each_tried f xs) (λ bs. given (b ∷ bs))))) o ≡ first_and_others o (narrow (each_tried f xs))
by_first f xs None = refl
by_first f xs (Some (Ok y)) = narrow-and_then (each_tried f xs) (λ bs. given (y ∷ bs)) (narrow (each_tried f xs)) refl ∙ in_front y (narrow (each_tried f xs))
by_first f xs (Some (Err r)) = refl

each-first : {A B : Type 0} (f : A → Trial B) (x : A) (xs : List A) → narrow (each_tried f (x ∷ xs)) ≡ first_and_others (narrow (f x)) (narrow (each_tried f xs))
each-first f x xs = narrow-and_then (f x) (λ b. and_then (each_tried f xs) (λ bs. given (b ∷ bs))) (narrow (f x)) refl ∙ by_first f xs (narrow (f x))

first-both : {B : Type 0} (o : Option (Result B Refusal)) (front others : Option (Result (List B) Refusal)) → first_and_others o (both front others) ≡ both (first_and_others o front) others
first-both None front others = refl
first-both (Some (Err r)) front others = refl
first-both (Some (Ok y)) None others = refl
first-both (Some (Ok y)) (Some (Err r)) others = refl
first-both (Some (Ok y)) (Some (Ok ys)) None = refl
first-both (Some (Ok y)) (Some (Ok ys)) (Some (Err r)) = refl
first-both (Some (Ok y)) (Some (Ok ys)) (Some (Ok zs)) = refl

behind-nothing : {B : Type 0} (others : Option (Result (List B) Refusal)) → others ≡ behind_values [] others
behind-nothing None = refl
behind-nothing (Some (Err r)) = refl
behind-nothing (Some (Ok ys)) = refl

each-append : {A B : Type 0} (f : A → Trial B) (xs ys : List A) → narrow (each_tried f (xs ++ ys)) ≡ both (narrow (each_tried f xs)) (narrow (each_tried f ys))
each-append f [] ys = behind-nothing (narrow (each_tried f ys))
each-append f (x ∷ xs) ys =
    each-first f x (xs ++ ys) ∙ ap (first_and_others (narrow (f x))) (each-append f xs ys) ∙ first-both (narrow (f x)) (narrow (each_tried f xs)) (narrow (each_tried f ys))
    ∙ ap (λ o. both o (narrow (each_tried f ys))) (sym (each-first f x xs))

behind-both : {B : Type 0} (items : List B) (front others : Option (Result (List B) Refusal)) → behind_values items (both front others) ≡ both (behind_values items front) others
behind-both items None others = refl
behind-both items (Some (Err r)) others = refl
behind-both items (Some (Ok ys)) None = refl
behind-both items (Some (Ok ys)) (Some (Err r)) = refl
behind-both items (Some (Ok ys)) (Some (Ok zs)) = ap (λ l. Some (Ok l)) (sym (append_assoc items ys zs))

-- ---- row by row
abbrev pub rest_rows : {A : Type 0} → (ℕ → List A) → ℕ → ℕ → List A
rest_rows row i n = flat_map row (range_with_len i (n - i))

next_row : {A B : Type 0} (f : A → Trial B) (row : ℕ → List A) (whole : Option (Result (List B) Refusal)) (items : List B) (i n : ℕ) (o : Option (Result (List B) Refusal)) → i < n
    → whole ≡ behind_values items (narrow (each_tried f (rest_rows row i n))) → behind_values items (narrow (each_tried f (row i))) ≡ o → whole ≡ both o (narrow (each_tried f (rest_rows row (i + 1) n)))
next_row f row whole items i n o h all e =
    all ∙ ap (λ r. behind_values items (narrow (each_tried f (flat_map row r)))) (from_below i n h)
    ∙ ap (behind_values items) (each-append f (row i) (rest_rows row (i + 1) n))
    ∙ behind-both items (narrow (each_tried f (row i))) (narrow (each_tried f (rest_rows row (i + 1) n)))
    ∙ ap (λ p. both p (narrow (each_tried f (rest_rows row (i + 1) n)))) e

pub rows_go : {A B : Type 0} (f : A → Trial B) (row : ℕ → List A) (whole : Option (Result (List B) Refusal)) (items new : List B) (i n : ℕ) → i < n
    → whole ≡ behind_values items (narrow (each_tried f (rest_rows row i n))) → behind_values items (narrow (each_tried f (row i))) ≡ Some (Ok new)
    → whole ≡ behind_values new (narrow (each_tried f (rest_rows row (i + 1) n)))
rows_go f row whole items new i n h all e = next_row f row whole items i n (Some (Ok new)) h all e

no_rows : {B : Type 0} (items : List B) (o : Option Refusal) (others : Option (Result (List B) Refusal)) → both (behind_values items (without_value o)) others ≡ without_value o
no_rows items None others = refl
no_rows items (Some r) others = refl

pub rows_stop : {A B T : Type 0} (f : A → Trial B) (row : ℕ → List A) (whole : Trial (List B)) (items : List B) (i n : ℕ) (e : OpRefusal) (back : T → List B) (r : Result T OpRefusal) → i < n
    → narrow whole ≡ behind_values items (narrow (each_tried f (rest_rows row i n))) → IsErrAnd r (λ s. s ≡ e) → Answers (each_tried f (row i)) (Err e) → Answers whole (result_map_both back (λ s. s) r)
rows_stop f row whole items i n e back r h all is part =
    refused_items (each_tried f (row i)) whole back e r is part
    (λ o none. next_row f row (narrow whole) items i n (behind_values items (without_value o)) h all (ap (behind_values items) none) ∙ no_rows items o (narrow (each_tried f (rest_rows row (i + 1) n))))

pub rows_end : {A B : Type 0} (f : A → Trial B) (row : ℕ → List A) (whole : Option (Result (List B) Refusal)) (items : List B) (i n : ℕ) → n ≤ i
    → whole ≡ behind_values items (narrow (each_tried f (rest_rows row i n))) → whole ≡ Some (Ok items)
rows_end f row whole items i n h all = all ∙ ap (λ r. behind_values items (narrow (each_tried f (flat_map row r)))) (from_end i n h) ∙ ap (λ l. Some (Ok l)) (append-nil items)

-- ---- within a row
abbrev pub rest_places : {A : Type 0} → (ℕ → A) → ℕ → ℕ → List A
rest_places place i n = map place (range_with_len i (n - i))

pub places_go : {A B : Type 0} (f : A → Trial B) (place : ℕ → A) (whole : Option (Result (List B) Refusal)) (items new : List B) (y : B) (i n : ℕ) → i < n → new ≡ items ++ y ∷ []
    → whole ≡ behind_values items (narrow (each_tried f (rest_places place i n))) → narrow (f (place i)) ≡ Some (Ok y) → whole ≡ behind_values new (narrow (each_tried f (rest_places place (i + 1) n)))
places_go f place whole items new y i n h more all e =
    each-one_more f whole items _ (place i) _ y (ap (map place) (from_below i n h)) all e ∙ ap (λ front. behind_values front (narrow (each_tried f (rest_places place (i + 1) n)))) (sym more)

none_behind : {B : Type 0} (items : List B) (c : Option (Result (List B) Refusal)) (o : Option Refusal) → behind_values items c ≡ without_value o → c ≡ without_value o
none_behind items None None e = refl
none_behind items None (Some r) e = cc
none_behind items (Some (Ok ys)) None e = cc
none_behind items (Some (Ok ys)) (Some r) e = cc
none_behind items (Some (Err s)) None e = cc
none_behind items (Some (Err s)) (Some r) e = e

pub places_stop : {A B T : Type 0} (f : A → Trial B) (place : ℕ → A) (whole : Trial (List B)) (old items : List B) (i n : ℕ) (e : OpRefusal) (r : Result T OpRefusal) (P : T → Type 0) → i < n
    → behind_values old (narrow whole) ≡ behind_values items (narrow (each_tried f (rest_places place i n))) → IsErrAnd r (λ s. s ≡ e) → Answers (f (place i)) (Err e)
    → MatchResult r P (λ refusal. Answers whole (Err refusal))
places_stop f place whole old items i n e (Ok x) P h all is part = absurd is
places_stop f place whole old items i n e (Err s) P h all is part =
    Rattle.std.proofs.Common.subst (λ t. Answers whole (Err t)) (sym is)
    (refused_whole (f (place i)) whole e part
    (λ o none. none_behind old (narrow whole) o (each-stops f (behind_values old (narrow whole)) items _ (place i) _ o (ap (map place) (from_below i n h)) all none)))

pub places_end : {A B : Type 0} (f : A → Trial B) (place : ℕ → A) (whole : Option (Result (List B) Refusal)) (items : List B) (i n : ℕ) → n ≤ i
    → whole ≡ behind_values items (narrow (each_tried f (rest_places place i n))) → whole ≡ Some (Ok items)
places_end f place whole items i n h all = all ∙ ap (λ r. behind_values items (narrow (each_tried f (map place r)))) (from_end i n h) ∙ ap (λ l. Some (Ok l)) (append-nil items)

-- ---- values turned into others
pub then_turned : {B C : Type 0} (g : B → C) (c : Trial B) → narrow (and_then c (λ b. given (g b))) ≡ option_map (result_map_both g (λ r. r)) (narrow c)
then_turned g c = narrow-and_then c (λ b. given (g b)) (narrow c) refl ∙ by_value (narrow c)
  where
    by_value : (o : Option _) → option_and_then (λ r. narrow (on_given r (λ b. given (g b)))) o ≡ option_map (result_map_both g (λ r. r)) o
    by_value None = refl
    by_value (Some (Ok b)) = refl
    by_value (Some (Err r)) = refl

turned-first : {B C : Type 0} (g : B → C) (o : Option (Result B Refusal)) (others : Option (Result (List B) Refusal))
    → first_and_others (option_map (result_map_both g (λ r. r)) o) (option_map (result_map_both (map g) (λ r. r)) others) ≡ option_map (result_map_both (map g) (λ r. r)) (first_and_others o others)
turned-first g None others = refl
turned-first g (Some (Err r)) others = refl
turned-first g (Some (Ok y)) None = refl
turned-first g (Some (Ok y)) (Some (Err r)) = refl
turned-first g (Some (Ok y)) (Some (Ok ys)) = refl

pub each-turned : {A B C : Type 0} (g : B → C) (f : A → Trial B) (xs : List A) → narrow (each_tried (λ x. and_then (f x) (λ b. given (g b))) xs) ≡ option_map (result_map_both (map g) (λ r. r)) (narrow (each_tried f xs))
each-turned g f [] = refl
each-turned g f (x ∷ xs) =
    each-first (λ x. and_then (f x) (λ b. given (g b))) x xs
    ∙ ap (λ o. first_and_others o (narrow (each_tried (λ x. and_then (f x) (λ b. given (g b))) xs))) (then_turned g (f x))
    ∙ ap (first_and_others (option_map (result_map_both g (λ r. r)) (narrow (f x)))) (each-turned g f xs)
    ∙ turned-first g (narrow (f x)) (narrow (each_tried f xs))
    ∙ ap (option_map (result_map_both (map g) (λ r. r))) (sym (each-first f x xs))

-- ---- as many values as places
length-first : {A B : Type 0} (o : Option (Result B Refusal)) (others : Option (Result (List B) Refusal)) (xs : List A) (ys : List B) → ((zs : List B) → others ≡ Some (Ok zs) → length zs ≡ length xs)
    → first_and_others o others ≡ Some (Ok ys) → length ys ≡ suc (length xs)
length-first None others xs ys h e = cc
length-first (Some (Err r)) others xs ys h e = cc
length-first (Some (Ok y)) None xs ys h e = cc
length-first (Some (Ok y)) (Some (Err r)) xs ys h e = cc
length-first (Some (Ok y)) (Some (Ok zs)) xs ys h e = let same : ys ≡ y ∷ zs = cc in ap length same ∙ ap suc (h zs refl)

pub each-length : {A B : Type 0} (f : A → Trial B) (xs : List A) (ys : List B) → narrow (each_tried f xs) ≡ Some (Ok ys) → length ys ≡ length xs
each-length f [] ys e = let same : ys ≡ [] = cc in ap length same
each-length f (x ∷ xs) ys e = length-first (narrow (f x)) (narrow (each_tried f xs)) xs ys (each-length f xs) (sym (each-first f x xs) ∙ e)

-- ---- a grid column by column
by_columns : (g : Raster) (columns : List ℕ) → map (λ (place : ℕ × ℕ). at g place.1 place.0) (flat_map (λ column. map (λ row. (column, row)) (below g.rows)) columns) ≡ flat_map (column_of g) columns
by_columns g [] = refl
by_columns g (c ∷ cs) =
    map-append (λ (place : ℕ × ℕ). at g place.1 place.0) (map (λ row. (c, row)) (below g.rows)) (flat_map (λ column. map (λ row. (column, row)) (below g.rows)) cs)
    ∙ ap (λ vs. vs ++ map (λ (place : ℕ × ℕ). at g place.1 place.0) (flat_map (λ column. map (λ row. (column, row)) (below g.rows)) cs)) (map-map (λ (place : ℕ × ℕ). at g place.1 place.0) (λ row. (c, row)) (below g.rows))
    ∙ ap (λ vs. column_of g c ++ vs) (by_columns g cs)

pub transposed-columns : (g : Raster) → (transposed g).items ≡ flat_map (column_of g) (below g.columns)
transposed-columns g = by_columns g (below g.columns)

pub length-transposed : (g : Raster) → length (transposed g).items ≡ g.columns * g.rows
length-transposed g = ap length (transposed-columns g) ∙ length-rows (column_of g) g.rows 0 g.columns (λ column. length-map-range_with_len (λ row. at g row column) 0 g.rows)
