-- A trial for each of some items, one after the other.
use Rattle.std.proofs.Common.{◌≡◌, refl, Bool, true, false, if◌then◌else◌, true≢false, sym, ap, ◌∙◌, subst, append_assoc, List, [], ◌∷◌, ◌++◌, Option, Some, None, Result, Ok, Err}
use Rattle.std.specs.Option.{option_and_then, option_map}
use Rattle.std.specs.Result.{IsErrAnd, result_map_both}
use Rattle.calculations.specs.Calculation.{narrow}
use Rattle.form_values.specs.Trials.{Trial, Refusal, Breaks, Undecided, Answers, and_then, given, on_given, each_tried}
use Rattle.form_values.specs.declared.refusal.OpRefusal.{OpRefusal}
use Rattle.form_values.specs.declared.refusal.OpRefusal.TheVariants as refusal
use Rattle.form_ops.proofs.Answering.{narrow-and_then}

-- the values so far, and then those for the rest, if there are such
abbrev pub behind_values : {B : Type 0} → List B → Option (Result (List B) Refusal) → Option (Result (List B) Refusal)
behind_values front others = option_map (result_map_both (λ ys. front ++ ys) (λ r. r)) others

-- a trial without a value: it is refused, or a number isn't narrow
abbrev pub without_value : {B : Type 0} → Option Refusal → Option (Result B Refusal)
without_value None = None
without_value (Some r) = Some (Err r)

-- the first item, and then the others
first_item : {A B : Type 0} (f : A → Trial B) (x : A) (xs : List A) (o : Option (Result B Refusal)) → narrow (f x) ≡ o
    → narrow (each_tried f (x ∷ xs)) ≡ option_and_then (λ r. narrow (on_given r (λ b. and_then (each_tried f xs) (λ bs. given (b ∷ bs))))) o
first_item f x xs o e = narrow-and_then (f x) (λ b. and_then (each_tried f xs) (λ bs. given (b ∷ bs))) o e

-- a value behind those in front
one_behind : {B : Type 0} (front : List B) (y : B) (o : Option (Result (List B) Refusal))
    → behind_values front (option_and_then (λ r. narrow (on_given r (λ bs. given (y ∷ bs)))) o) ≡ behind_values (front ++ y ∷ []) o
one_behind front y None = refl
one_behind front y (Some (Ok ys)) = ap (λ l. Some (Ok l)) (sym (append_assoc front (y ∷ []) ys))
one_behind front y (Some (Err r)) = refl

-- one value more
pub each-one_more : {A B : Type 0} (f : A → Trial B) (whole : Option (Result (List B) Refusal)) (front : List B) (rest : List A) (x : A) (others : List A) (y : B) → rest ≡ x ∷ others
    → whole ≡ behind_values front (narrow (each_tried f rest)) → narrow (f x) ≡ Some (Ok y) → whole ≡ behind_values (front ++ y ∷ []) (narrow (each_tried f others))
each-one_more f whole front rest x others y e all h =
    all ∙ ap (λ l. behind_values front (narrow (each_tried f l))) e
    ∙ ap (behind_values front) (first_item f x others (Some (Ok y)) h ∙ narrow-and_then (each_tried f others) (λ bs. given (y ∷ bs)) (narrow (each_tried f others)) refl)
    ∙ one_behind front y (narrow (each_tried f others))

-- an item without a value
pub each-stops : {A B : Type 0} (f : A → Trial B) (whole : Option (Result (List B) Refusal)) (front : List B) (rest : List A) (x : A) (others : List A) (o : Option Refusal) → rest ≡ x ∷ others
    → whole ≡ behind_values front (narrow (each_tried f rest)) → narrow (f x) ≡ without_value o → whole ≡ without_value o
each-stops f whole front rest x others None e all h =
    all ∙ ap (λ l. behind_values front (narrow (each_tried f l))) e ∙ ap (behind_values front) (first_item f x others None h)
each-stops f whole front rest x others (Some r) e all h =
    all ∙ ap (λ l. behind_values front (narrow (each_tried f l))) e ∙ ap (behind_values front) (first_item f x others (Some (Err r)) h)

-- ---- an item's refusal is the whole's
-- what has no value where another hasn't
abbrev pub Follows : {A B : Type 0} → Trial A → Trial B → Type 0
Follows part whole = (o : Option Refusal) → narrow part ≡ without_value o → narrow whole ≡ without_value o

pub refused_whole : {A B : Type 0} (part : Trial A) (whole : Trial B) (e : OpRefusal) → Answers part (Err e) → Follows part whole → Answers whole (Err e)
refused_whole part whole refusal.Break h follow = follow (Some Breaks) h
refused_whole part whole (refusal.Undecided i) h follow = follow (Some (Undecided i)) h
refused_whole part whole refusal.Wide h follow = follow None h
refused_whole part whole refusal.Memory h follow = tt

-- what is refused by that refusal
pub refused : {A B : Type 0} (part : Trial A) (whole : Trial B) (e : OpRefusal) (r : Result B OpRefusal) → IsErrAnd r (λ s. s ≡ e)
    → Answers part (Err e) → Follows part whole → Answers whole r
refused part whole e (Ok x) is h follow = absurd is
refused part whole e (Err s) is h follow = subst (λ t. Answers whole (Err t)) (sym is) (refused_whole part whole e h follow)

-- the same, where the result holds the items
pub refused_items : {A B T : Type 0} (part : Trial A) (whole : Trial B) (items : T → B) (e : OpRefusal) (r : Result T OpRefusal) → IsErrAnd r (λ s. s ≡ e)
    → Answers part (Err e) → Follows part whole → Answers whole (result_map_both items (λ s. s) r)
refused_items part whole items e (Ok x) is h follow = absurd is
refused_items part whole items e (Err s) is h follow = subst (λ t. Answers whole (Err t)) (sym is) (refused_whole part whole e h follow)

-- what comes behind a trial has no value where that has none
pub follows_then : {A B : Type 0} (c : Trial A) (f : A → Trial B) → Follows c (and_then c f)
follows_then c f None e = narrow-and_then c f None e
follows_then c f (Some r) e = narrow-and_then c f (Some (Err r)) e

-- trials for items that are those of another list
pub spread_refused : {A B C : Type 0} (f : A → Trial B) (g : List B → C) (items all : List A) (e : OpRefusal) (r : Result C OpRefusal) → items ≡ all
    → IsErrAnd r (λ s. s ≡ e) → Answers (each_tried f items) (Err e) → Answers (and_then (each_tried f all) (λ bs. given (g bs))) r
spread_refused f g items all e r same is h =
    refused (each_tried f all) (and_then (each_tried f all) (λ bs. given (g bs))) e r is (subst (λ xs. Answers (each_tried f xs) (Err e)) same h)
    (follows_then (each_tried f all) (λ bs. given (g bs)))

-- the values of all items
pub spread_given : {A B C : Type 0} (f : A → Trial B) (g : List B → C) (items all : List A) (values : List B) → items ≡ all
    → narrow (each_tried f items) ≡ Some (Ok values) → narrow (and_then (each_tried f all) (λ bs. given (g bs))) ≡ Some (Ok (g values))
spread_given f g items all values same h =
    narrow-and_then (each_tried f all) (λ bs. given (g bs)) (Some (Ok values)) (subst (λ xs. narrow (each_tried f xs) ≡ Some (Ok values)) same h)

-- a trial that a test lets through
pub let_through : {A : Type 0} (b : Bool) (c other : Trial A) (r : Result A OpRefusal) → b ≡ true → Answers c r → Answers (if b then c else other) r
let_through true c other r e h = h
let_through false c other r e h = absurd (true≢false (sym e))
