-- What numbers come to, one after the other.
use Rattle.std.proofs.Common.{◌≡◌, refl, sym, ap, ◌∙◌, Bool, true, false, if◌then◌else◌, suc, List, [], ◌∷◌, ◌++◌, Option, Some, None, Result, Ok, Err}
use Rattle.std.specs.Prelude.{flat_map, length}
use Rattle.std.specs.Option.{option_and_then, option_map}
use Rattle.std.specs.Result.{IsErrAnd}
use Rattle.fractions.specs.Rational.{ℚ, zero_ℚ}
use Rattle.calculations.specs.Calculation.{Calculation, sum, quotient, done, after, followed_by, through, narrow, result_of, stays_narrow}
use Rattle.calculations.proofs.CalculationLaws.{narrow-followed_by, narrow-turned_into}
use Rattle.cell_refs.specs.declared.error_kind.ErrorKind.{ErrorKind}
use Rattle.sheet_model.specs.declared.grid.Arg.{Arg}
use Rattle.sheet_model.specs.declared.grid.Arg.TheVariants.{One}
use Rattle.sheet_model.specs.declared.value.Value.TheVariants.{Number, Error}
use Rattle.sheet_funcs.specs.Arguments.{all_or_error, behind_first, answered, counted, on_ok}
use Rattle.sheet_funcs.specs.Collected.{behind}
use Rattle.sheet_funcs.specs.Sums.{lesser, greater, least, greatest, total, how_many, mean}
use Rattle.sheet_funcs.specs.Tallies.{with_number, with_numbers, tally_or_error}
use Rattle.sheet_funcs.specs.declared.tally.Tally.{Tally}
use Rattle.sheet_funcs.specs.declared.tally.Tally.TheVariants.{Total, Least, Greatest}
use Rattle.sheet_funcs.proofs.Collecting.{all-append, with_more}
use Rattle.sheet_funcs.proofs.Extremes.{least-two, greatest-two}

-- ---- numbers behind others
with-append : (t : Tally) (s : Option ℚ) (xs ys : List ℚ) → with_numbers t s (xs ++ ys) ≡ with_numbers t (with_numbers t s xs) ys
with-append t s [] ys = refl
with-append t s (x ∷ xs) ys = with-append t (with_number t s x) xs ys

-- beside what came before
abbrev beside : Tally → Result (Option ℚ) ErrorKind → Result (List ℚ) ErrorKind → Result (Option ℚ) ErrorKind
beside t (Ok s) r = tally_or_error t s r
beside t (Err k) r = Err k

with-behind : (t : Tally) (s : Option ℚ) (xs : List ℚ) (r : Result (List ℚ) ErrorKind) → tally_or_error t s (behind xs r) ≡ tally_or_error t (with_numbers t s xs) r
with-behind t s xs (Ok ys) = ap Ok (with-append t s xs ys)
with-behind t s xs (Err k) = refl

with-then : (t : Tally) (s : Option ℚ) (r more : Result (List ℚ) ErrorKind) → tally_or_error t s (with_more r more) ≡ beside t (tally_or_error t s r) more
with-then t s (Ok xs) more = with-behind t s xs more
with-then t s (Err k) more = refl

-- an item's numbers, and then those of the others
first_part : {X : Type 0} (t : Tally) (h : X → List (Result ℚ ErrorKind)) (whole : Result (Option ℚ) ErrorKind) (s : Option ℚ) (rest : List X) (x : X) (others : List X) (r : Result (Option ℚ) ErrorKind)
    → rest ≡ x ∷ others → whole ≡ tally_or_error t s (all_or_error (flat_map h rest)) → r ≡ tally_or_error t s (all_or_error (h x))
    → whole ≡ beside t r (all_or_error (flat_map h others))
first_part t h whole s rest x others r e all part =
    all ∙ ap (λ xs. tally_or_error t s (all_or_error (flat_map h xs))) e
    ∙ ap (tally_or_error t s) (all-append (h x) (flat_map h others))
    ∙ with-then t s (all_or_error (h x)) (all_or_error (flat_map h others))
    ∙ ap (λ p. beside t p (all_or_error (flat_map h others))) (sym part)

pub tallies_more : {X : Type 0} (t : Tally) (h : X → List (Result ℚ ErrorKind)) (whole : Result (Option ℚ) ErrorKind) (s : Option ℚ) (rest : List X) (x : X) (others : List X) (new : Option ℚ)
    → rest ≡ x ∷ others → whole ≡ tally_or_error t s (all_or_error (flat_map h rest)) → Ok new ≡ tally_or_error t s (all_or_error (h x))
    → whole ≡ tally_or_error t new (all_or_error (flat_map h others))
tallies_more t h whole s rest x others new e all part = first_part t h whole s rest x others (Ok new) e all part

tallies_error : {X : Type 0} (t : Tally) (h : X → List (Result ℚ ErrorKind)) (whole : Result (Option ℚ) ErrorKind) (s : Option ℚ) (rest : List X) (x : X) (others : List X) (k : ErrorKind)
    → rest ≡ x ∷ others → whole ≡ tally_or_error t s (all_or_error (flat_map h rest)) → Err k ≡ tally_or_error t s (all_or_error (h x)) → whole ≡ Err k
tallies_error t h whole s rest x others k e all part = first_part t h whole s rest x others (Err k) e all part

-- where the error is passed on
pub tallies_stop : {X : Type 0} (t : Tally) (h : X → List (Result ℚ ErrorKind)) (whole : Result (Option ℚ) ErrorKind) (s : Option ℚ) (rest : List X) (x : X) (others : List X) (k : ErrorKind) (r : Result (Option ℚ) ErrorKind)
    → IsErrAnd r (λ l. l ≡ k) → rest ≡ x ∷ others → whole ≡ tally_or_error t s (all_or_error (flat_map h rest)) → Err k ≡ tally_or_error t s (all_or_error (h x)) → r ≡ whole
tallies_stop t h whole s rest x others k (Ok o) is e all part = absurd is
tallies_stop t h whole s rest x others k (Err l) is e all part = ap Err is ∙ sym (tallies_error t h whole s rest x others k e all part)

-- ---- what a tally is
none_stays : (xs : List ℚ) → with_numbers Total None xs ≡ None
none_stays [] = refl
none_stays (x ∷ xs) = none_stays xs

total_is : (s : ℚ) (xs : List ℚ) → with_numbers Total (Some s) xs ≡ narrow (through (λ so_far x. after (sum so_far x) done) s xs)
total_is s [] = refl
total_is s (x ∷ xs) =
    elim (stays_narrow (sum s x)) as (λ b. with_numbers Total (if b then Some (result_of (sum s x)) else None) xs
    ≡ (if b then narrow (through (λ so_far x. after (sum so_far x) done) (result_of (sum s x)) xs) else None)) [
      | true ↦ total_is (result_of (sum s x)) xs
      | false ↦ none_stays xs
    ]

least_is : (x : ℚ) (xs : List ℚ) → with_numbers Least (Some x) xs ≡ Some (least (x ∷ xs))
least_is x [] = refl
least_is x (y ∷ xs) = least_is (lesser x y) xs ∙ ap Some (sym (least-two x y xs))

greatest_is : (x : ℚ) (xs : List ℚ) → with_numbers Greatest (Some x) xs ≡ Some (greatest (x ∷ xs))
greatest_is x [] = refl
greatest_is x (y ∷ xs) = greatest_is (greater x y) xs ∙ ap Some (sym (greatest-two x y xs))

-- ---- results
ok_same : (o p : Option ℚ) → ◌≡◌ {A = Result (Option ℚ) ErrorKind} (Ok o) (Ok p) → o ≡ p
ok_same o p e = cc

-- the numbers whose sum this is
pub summed_numbers : (r : Result (List ℚ) ErrorKind) (o : Option ℚ) → Ok o ≡ tally_or_error Total (Some zero_ℚ) r → (xs : List ℚ) × ((r ≡ Ok xs) × (narrow (total xs) ≡ o))
summed_numbers (Ok xs) o e = (xs, (refl, sym (total_is zero_ℚ xs) ∙ sym (ok_same o (with_numbers Total (Some zero_ℚ) xs) e)))
summed_numbers (Err k) o e = cc

pub sum_is : (r : Result (List ℚ) ErrorKind) (o : Option ℚ) → Ok o ≡ tally_or_error Total (Some zero_ℚ) r
    → narrow (on_ok r (λ xs. counted (total xs))) ≡ option_map (λ x. One (Number x)) o
sum_is (Ok xs) o e =
    narrow-turned_into (λ x. One (Number x)) (total xs)
    ∙ ap (option_map (λ x. One (Number x))) (sym (total_is zero_ℚ xs) ∙ sym (ok_same o (with_numbers Total (Some zero_ℚ) xs) e))
sum_is (Err k) o e = cc

-- an error among the numbers
pub error_is : (t : Tally) (s : Option ℚ) (r : Result (List ℚ) ErrorKind) (f : List ℚ → Calculation Arg) (k : ErrorKind) → Err k ≡ tally_or_error t s r → narrow (on_ok r f) ≡ Some (One (Error k))
error_is t s (Ok xs) f k e = cc
error_is t s (Err l) f k e = let same : k ≡ l = cc in ap (λ m. Some (One (Error m))) (sym same)

-- the least and the greatest, where there are some
abbrev or_zero : Option ℚ → ℚ
or_zero (Some x) = x
or_zero None = zero_ℚ

least_told : (xs : List ℚ) → least xs ≡ or_zero (with_numbers Least None xs)
least_told [] = refl
least_told (x ∷ xs) = ap or_zero (sym (least_is x xs))

greatest_told : (xs : List ℚ) → greatest xs ≡ or_zero (with_numbers Greatest None xs)
greatest_told [] = refl
greatest_told (x ∷ xs) = ap or_zero (sym (greatest_is x xs))

least_result : (r : Result (List ℚ) ErrorKind) (o : Option ℚ) → Ok o ≡ tally_or_error Least None r → on_ok r (λ xs. answered (Number (least xs))) ≡ answered (Number (or_zero o))
least_result (Ok xs) o e = ap (λ x. answered (Number x)) (least_told xs ∙ ap or_zero (sym (ok_same o (with_numbers Least None xs) e)))
least_result (Err k) o e = cc

greatest_result : (r : Result (List ℚ) ErrorKind) (o : Option ℚ) → Ok o ≡ tally_or_error Greatest None r → on_ok r (λ xs. answered (Number (greatest xs))) ≡ answered (Number (or_zero o))
greatest_result (Ok xs) o e = ap (λ x. answered (Number x)) (greatest_told xs ∙ ap or_zero (sym (ok_same o (with_numbers Greatest None xs) e)))
greatest_result (Err k) o e = cc

pub least_some : (r : Result (List ℚ) ErrorKind) (x : ℚ) → Ok (Some x) ≡ tally_or_error Least None r → on_ok r (λ xs. answered (Number (least xs))) ≡ answered (Number x)
least_some r x e = least_result r (Some x) e

pub least_none : (r : Result (List ℚ) ErrorKind) → Ok None ≡ tally_or_error Least None r → on_ok r (λ xs. answered (Number (least xs))) ≡ answered (Number zero_ℚ)
least_none r e = least_result r None e

pub greatest_some : (r : Result (List ℚ) ErrorKind) (x : ℚ) → Ok (Some x) ≡ tally_or_error Greatest None r → on_ok r (λ xs. answered (Number (greatest xs))) ≡ answered (Number x)
greatest_some r x e = greatest_result r (Some x) e

pub greatest_none : (r : Result (List ℚ) ErrorKind) → Ok None ≡ tally_or_error Greatest None r → on_ok r (λ xs. answered (Number (greatest xs))) ≡ answered (Number zero_ℚ)
greatest_none r e = greatest_result r None e

-- ---- means
-- as many numbers as items, where none is an error
pub all_lengths : (rs : List (Result ℚ ErrorKind)) (xs : List ℚ) → all_or_error rs ≡ Ok xs → length rs ≡ length xs
all_lengths [] xs e = let same : [] ≡ xs = cc in ap length same
all_lengths (Err k ∷ rs) xs e = cc
all_lengths (Ok x ∷ rs) xs e = one_more (all_or_error rs) (all_lengths rs) e
  where
    one_more : (r : Result (List ℚ) ErrorKind) → ((ys : List ℚ) → r ≡ Ok ys → length rs ≡ length ys) → behind_first x r ≡ Ok xs → suc (length rs) ≡ length xs
    one_more (Ok ys) h f = let same : x ∷ ys ≡ xs = cc in ap suc (h ys refl) ∙ ap length same
    one_more (Err k) h f = cc

-- the sum isn't narrow
mean_wide : (xs : List ℚ) → narrow (total xs) ≡ None → narrow (mean xs) ≡ None
mean_wide [] e = cc
mean_wide (x ∷ xs) e =
    let c = followed_by (total (x ∷ xs)) (λ s. after (quotient s (how_many (x ∷ xs))) done) in
    narrow-turned_into (λ y. One (Number y)) c
    ∙ ap (option_map (λ y. One (Number y)))
    (narrow-followed_by (total (x ∷ xs)) (λ s. after (quotient s (how_many (x ∷ xs))) done) ∙ ap (option_and_then (λ s. narrow (after (quotient s (how_many (x ∷ xs))) done))) e)

pub mean_none : (r : Result (List ℚ) ErrorKind) → Ok None ≡ tally_or_error Total (Some zero_ℚ) r → narrow (on_ok r mean) ≡ None
mean_none r e = let numbers = summed_numbers r None e in ap (λ p. narrow (on_ok p mean)) numbers.1.0 ∙ mean_wide numbers.0 numbers.1.1
