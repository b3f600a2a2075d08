-- A calculation for each of some items, one after the other.
use Rattle.std.proofs.Common.{◌≡◌, refl, Bool, true, false, ◌&&◌, if◌then◌else◌, true≢false, ℕ, ◌+◌, ◌<◌, sym, ap, ◌∙◌, subst, List, [], ◌∷◌, ◌++◌, length, get_or, drop, drop-cons, add-one, Option, Some, None, Result, Ok, Err}
use Rattle.std.specs.Prelude.{option_map, zip, ◌==◌}
use Rattle.std.proofs.lemmas.Bool.{eq-eqb}
use Rattle.std.specs.Result.{IsErrAnd, result_map_both}
use Rattle.calculations.specs.Calculation.{Calculation, narrow, for_each, turned_into}
use Rattle.sheet_model.specs.Answers.{Answers}
use Rattle.sheet_model.specs.declared.stop.FuncStop.{FuncStop}
use Rattle.sheet_model.specs.declared.stop.FuncStop.TheVariants as stop
use Rattle.calculations.proofs.CalculationLaws.{behind_answers, behind-one_more, behind-stops, narrow-turned_into}

-- what is left from a place on
pub rest_from : {A : Type 0} (xs : List A) (i : ℕ) (x : A) → i < length xs → x ≡ get_or xs i x → drop i xs ≡ x ∷ drop (i + 1) xs
rest_from xs i x h e = rw (add-one, drop-cons xs i x h, ← e) refl

-- what is left of two lists from a place on, in pairs
pub pairs_from : {A B : Type 0} (xs : List A) (ys : List B) (i : ℕ) (x : A) (y : B) → i < length xs → i < length ys → x ≡ get_or xs i x → y ≡ get_or ys i y
    → zip (drop i xs) (drop i ys) ≡ (x, y) ∷ zip (drop (i + 1) xs) (drop (i + 1) ys)
pairs_from xs ys i x y h k e f = rw (rest_from xs i x h e, rest_from ys i y k f) refl

-- one answer more
pub each-one_more : {A B : Type 0} (f : A → Calculation B) (whole : Option (List B)) (answers : List B) (rest : List A) (x : A) (others : List A) (y : B) → rest ≡ x ∷ others
    → whole ≡ behind_answers answers (narrow (for_each f rest)) → narrow (f x) ≡ Some y → whole ≡ behind_answers (answers ++ y ∷ []) (narrow (for_each f others))
each-one_more f whole answers rest x others y e all =
    behind-one_more f whole answers x others y (subst (λ xs. whole ≡ behind_answers answers (narrow (for_each f xs))) e all)

-- an item whose calculation isn't narrow
pub each-stops : {A B : Type 0} (f : A → Calculation B) (whole : Option (List B)) (answers : List B) (rest : List A) (x : A) (others : List A) → rest ≡ x ∷ others
    → whole ≡ behind_answers answers (narrow (for_each f rest)) → narrow (f x) ≡ None → whole ≡ None
each-stops f whole answers rest x others e all =
    behind-stops f whole answers x others (subst (λ xs. whole ≡ behind_answers answers (narrow (for_each f xs))) e all)

-- ---- an item's stop is the whole's
-- the same stop, of the whole
stops_whole : {A B : Type 0} (part : Calculation A) (whole : Calculation B) (e : FuncStop) → Answers part (Err e) → (narrow part ≡ None → narrow whole ≡ None) → Answers whole (Err e)
stops_whole part whole stop.Wide h wide = wide h
stops_whole part whole stop.Memory h wide = tt

-- what stops on that stop
pub stopped : {A B : Type 0} (part : Calculation A) (whole : Calculation B) (e : FuncStop) (r : Result B FuncStop) → IsErrAnd r (λ s. s ≡ e)
    → Answers part (Err e) → (narrow part ≡ None → narrow whole ≡ None) → Answers whole r
stopped part whole e (Ok x) is h wide = absurd is
stopped part whole e (Err s) is h wide = subst (λ t. Answers whole (Err t)) (sym is) (stops_whole part whole e h wide)

-- the same, where the result holds the items
pub stopped_items : {A B T : Type 0} (part : Calculation A) (whole : Calculation B) (items : T → B) (e : FuncStop) (r : Result T FuncStop) → IsErrAnd r (λ s. s ≡ e)
    → Answers part (Err e) → (narrow part ≡ None → narrow whole ≡ None) → Answers whole (result_map_both items (λ s. s) r)
stopped_items part whole items e (Ok x) is h wide = absurd is
stopped_items part whole items e (Err s) is h wide = subst (λ t. Answers whole (Err t)) (sym is) (stops_whole part whole e h wide)

-- ---- answers turned into others
pub turned_answers : {A B : Type 0} (g : A → B) (c : Calculation A) (r : Result A FuncStop) → Answers c r → Answers (turned_into g c) (result_map_both g (λ s. s) r)
turned_answers g c (Ok x) h = narrow-turned_into g c ∙ ap (option_map g) h
turned_answers g c (Err stop.Wide) h = narrow-turned_into g c ∙ ap (option_map g) h
turned_answers g c (Err stop.Memory) h = tt

-- the same of calculations for items that are those of another list
pub spread_stopped : {A B C : Type 0} (f : A → Calculation B) (g : List B → C) (items all : List A) (e : FuncStop) (r : Result C FuncStop) → items ≡ all
    → IsErrAnd r (λ s. s ≡ e) → Answers (for_each f items) (Err e) → Answers (turned_into g (for_each f all)) r
spread_stopped f g items all e r same is h =
    stopped (for_each f all) (turned_into g (for_each f all)) e r is (subst (λ xs. Answers (for_each f xs) (Err e)) same h)
    (λ wide. narrow-turned_into g (for_each f all) ∙ ap (option_map g) wide)

-- the answers of all items
pub spread_answered : {A B C : Type 0} (f : A → Calculation B) (g : List B → C) (items all : List A) (answers : List B) → items ≡ all
    → narrow (for_each f items) ≡ Some answers → narrow (turned_into g (for_each f all)) ≡ Some (g answers)
spread_answered f g items all answers same h =
    narrow-turned_into g (for_each f all) ∙ ap (option_map g) (subst (λ xs. narrow (for_each f xs) ≡ Some answers) same h)

-- pairs of equal lists
pub same_pairs : {A B : Type 0} (xs xs' : List A) (ys ys' : List B) → xs ≡ xs' → ys ≡ ys' → zip xs ys ≡ zip xs' ys'
same_pairs xs xs' ys ys' e f = rw (e, f) refl

-- a calculation that a test lets through
pub let_through : {A : Type 0} (b : Bool) (c other : Calculation A) (r : Result A FuncStop) → b ≡ true → Answers c r → Answers (if b then c else other) r
let_through true c other r e h = h
let_through false c other r e h = absurd (true≢false (sym e))

-- sizes that are equal pass the test
pub same_size : (a b c d : ℕ) → a ≡ b → c ≡ d → ((a == b) && (c == d)) ≡ true
same_size a b c d e f = rw (eq-eqb a b e, eq-eqb c d f) refl
