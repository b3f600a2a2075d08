-- Lists of numbers or of logicals up to the first error.
use Rattle.std.proofs.Common.{◌≡◌, refl, sym, ap, ◌∙◌, append_assoc, append-nil, Bool, not, ◌||◌, List, [], ◌∷◌, ◌++◌, Option, Some, None, Result, Ok, Err}
use Rattle.std.specs.Prelude.{flat_map}
use Rattle.std.specs.List.{filter_map, list_any}
use Rattle.std.specs.Option.{option_to_list}
use Rattle.std.specs.Result.{result_map_both}
use Rattle.std.proofs.lemmas.List.Folds.{list_any-append}
use Rattle.cell_refs.specs.declared.error_kind.ErrorKind.{ErrorKind}
use Rattle.sheet_funcs.specs.Arguments.{all_or_error, behind_first}
use Rattle.sheet_funcs.specs.Collected.{behind}
use Rattle.sheet_funcs.specs.SeenLogicals.{joined, seen_of, seen_or_error}
use Rattle.sheet_funcs.specs.declared.logic.Seen.{Seen}

-- more, where there was no error before
abbrev pub with_more : {A : Type 0} → Result (List A) ErrorKind → Result (List A) ErrorKind → Result (List A) ErrorKind
with_more (Ok xs) more = behind xs more
with_more (Err k) more = Err k

behind-first : {A : Type 0} (x : A) (r : Result (List A) ErrorKind) → behind_first x r ≡ behind (x ∷ []) r
behind-first x (Ok xs) = refl
behind-first x (Err k) = refl

behind-behind : {A : Type 0} (xs ys : List A) (r : Result (List A) ErrorKind) → behind xs (behind ys r) ≡ behind (xs ++ ys) r
behind-behind xs ys (Ok zs) = ap Ok (sym (append_assoc xs ys zs))
behind-behind xs ys (Err k) = refl

behind-nothing : {A : Type 0} (r : Result (List A) ErrorKind) → behind [] r ≡ r
behind-nothing (Ok xs) = refl
behind-nothing (Err k) = refl

-- one more in front
then-first : {A : Type 0} (x : A) (r more : Result (List A) ErrorKind) → behind_first x (with_more r more) ≡ with_more (behind_first x r) more
then-first x (Ok xs) more = behind-first x (behind xs more) ∙ behind-behind (x ∷ []) xs more
then-first x (Err k) more = refl

-- all of two lists
pub all-append : {A : Type 0} (xs ys : List (Result A ErrorKind)) → all_or_error (xs ++ ys) ≡ with_more (all_or_error xs) (all_or_error ys)
all-append [] ys = sym (behind-nothing (all_or_error ys))
all-append (Ok x ∷ xs) ys = ap (behind_first x) (all-append xs ys) ∙ then-first x (all_or_error xs) (all_or_error ys)
all-append (Err k ∷ xs) ys = refl

-- what is skipped and what is not, in parts
pub filter_map-parts : {X Y : Type 0} (h : X → Option Y) (xs : List X) → filter_map h xs ≡ flat_map (λ x. option_to_list (h x)) xs
filter_map-parts h [] = refl
filter_map-parts h (x ∷ xs) = one (h x) ∙ ap (λ ys. option_to_list (h x) ++ ys) (filter_map-parts h xs)
  where
    one : (o : Option _) → Rattle.std.specs.List.cons_option o (filter_map h xs) ≡ option_to_list o ++ filter_map h xs
    one None = refl
    one (Some y) = refl

-- ---- the same of which logicals are seen
abbrev pub after_seen : Seen → Result Seen ErrorKind → Result Seen ErrorKind
after_seen s r = result_map_both (joined s) (λ k. k) r

-- seen before, or an error
abbrev after_part : Result Seen ErrorKind → Result Seen ErrorKind → Result Seen ErrorKind
after_part (Ok s) r = after_seen s r
after_part (Err k) r = Err k

pub after-nothing : (r : Result Seen ErrorKind) → after_seen (seen_of []) r ≡ r
after-nothing (Ok s) = refl
after-nothing (Err k) = refl

seen-append : (ps bs : List Bool) → seen_of (ps ++ bs) ≡ joined (seen_of ps) (seen_of bs)
seen-append ps bs = rw (list_any-append (λ (b : Bool). b) ps bs, list_any-append not ps bs) refl

seen-behind : (ps : List Bool) (r : Result (List Bool) ErrorKind) → seen_or_error (behind ps r) ≡ after_seen (seen_of ps) (seen_or_error r)
seen-behind ps (Ok bs) = ap Ok (seen-append ps bs)
seen-behind ps (Err k) = refl

seen-then : (r more : Result (List Bool) ErrorKind) → seen_or_error (with_more r more) ≡ after_part (seen_or_error r) (seen_or_error more)
seen-then (Ok ps) more = seen-behind ps more
seen-then (Err k) more = refl

or_assoc : (a b c : Bool) → (a || (b || c)) ≡ ((a || b) || c)
or_assoc Bool.true b c = refl
or_assoc Bool.false b c = refl

after-after : (s t : Seen) (r : Result Seen ErrorKind) → after_seen s (after_seen t r) ≡ after_seen (joined s t) r
after-after s t (Ok u) = rw (or_assoc s.some_true t.some_true u.some_true, or_assoc s.some_false t.some_false u.some_false) refl
after-after s t (Err k) = refl

first_seen : {X : Type 0} (h : X → List (Result Bool ErrorKind)) (whole : Result Seen ErrorKind) (seen : Seen) (rest : List X) (x : X) (others : List X) (r : Result Seen ErrorKind)
    → rest ≡ x ∷ others → whole ≡ after_seen seen (seen_or_error (all_or_error (flat_map h rest))) → r ≡ seen_or_error (all_or_error (h x))
    → whole ≡ after_seen seen (after_part r (seen_or_error (all_or_error (flat_map h others))))
first_seen h whole seen rest x others r e all part =
    all ∙ ap (λ xs. after_seen seen (seen_or_error (all_or_error (flat_map h xs)))) e
    ∙ ap (λ p. after_seen seen (seen_or_error p)) (all-append (h x) (flat_map h others))
    ∙ ap (after_seen seen) (seen-then (all_or_error (h x)) (all_or_error (flat_map h others)))
    ∙ ap (λ p. after_seen seen (after_part p (seen_or_error (all_or_error (flat_map h others))))) (sym part)

pub sees_more : {X : Type 0} (h : X → List (Result Bool ErrorKind)) (whole : Result Seen ErrorKind) (seen : Seen) (rest : List X) (x : X) (others : List X) (found : Seen)
    → rest ≡ x ∷ others → whole ≡ after_seen seen (seen_or_error (all_or_error (flat_map h rest))) → Ok found ≡ seen_or_error (all_or_error (h x))
    → whole ≡ after_seen (joined seen found) (seen_or_error (all_or_error (flat_map h others)))
sees_more h whole seen rest x others found e all part =
    first_seen h whole seen rest x others (Ok found) e all part ∙ after-after seen found (seen_or_error (all_or_error (flat_map h others)))

pub sees_error : {X : Type 0} (h : X → List (Result Bool ErrorKind)) (whole : Result Seen ErrorKind) (seen : Seen) (rest : List X) (x : X) (others : List X) (k : ErrorKind)
    → rest ≡ x ∷ others → whole ≡ after_seen seen (seen_or_error (all_or_error (flat_map h rest))) → Err k ≡ seen_or_error (all_or_error (h x)) → whole ≡ Err k
sees_error h whole seen rest x others k e all part = first_seen h whole seen rest x others (Err k) e all part
