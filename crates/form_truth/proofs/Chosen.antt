-- The places that SUMIF adds, and what CHOOSE chooses.
use Rattle.std.specs.Prelude.{negsuc, slice_get}
use Rattle.std.specs.List.{list_all}
use Rattle.std.proofs.Common.{◌≡◌, refl, sym, ap, ap₂, ◌∙◌, true, true≢false, List, [], ◌∷◌, map, Option, Some, None, Result, Ok, ℕ, zero, suc, pos}
use Rattle.std.proofs.lemmas.Bool.{and_parts}
use Rattle.fractions.specs.Rational.{ℚ}
use Rattle.calculations.specs.Calculation.{exact}
use Rattle.cell_refs.specs.declared.error_kind.ErrorKind.{ErrorKind}
use Rattle.cell_refs.specs.declared.error_kind.ErrorKind.TheVariants as kind
use Rattle.sheet_model.specs.Operators.{single}
use Rattle.sheet_model.specs.declared.value.Value.{Value}
use Rattle.sheet_model.specs.declared.value.Value.TheVariants.{Number, Text, Logical, Empty, Error}
use Rattle.sheet_model.specs.declared.grid.Arg.TheVariants as arg
use Rattle.sheet_funcs.specs.Arguments as functions
use Rattle.sheet_funcs.specs.Rounding as numbers
use Rattle.affine_forms.specs.Forms.{Assignment, AffineForm, worth}
use Rattle.form_values.specs.Meaning.{abs_at, arg_at}
use Rattle.form_values.proofs.Opening.{IsSound, abs_sound, arg_sound}
use Rattle.form_values.specs.declared.abs.Abs.{Abs}
use Rattle.form_values.specs.declared.abs.Abs.TheVariants.{Known, Affine, Test}
use Rattle.form_values.specs.declared.abs.AbsArg.{AbsArg}
use Rattle.form_values.specs.declared.abs.AbsArg.TheVariants.{One, Area}
use Rattle.form_table.specs.Wanted.{Wanted, form, open_test, none, value_of, number_of, grid_of, constant_of}
use Rattle.form_table.specs.Choosing.{found_choice, choose_by, choose_of}
use Rattle.form_table.specs.Certain.{is_value_error, is_no_choice}
use Rattle.form_table.specs.Criteria.{places_from, by_known}
use Rattle.form_table.specs.Lookups.{known_value, known_keys}
use Rattle.form_truth.specs.Rows.{ArgumentVaries}
use Rattle.form_truth.specs.Picks.{IsPick, PlacesAreRight, chosen_by, ChosenIsRight, worth_chosen, CertainIsChosen}
use Rattle.form_truth.proofs.Arguments.{value_at}
use Rattle.form_truth.proofs.Fitting.{fits, constant_is}
use Rattle.form_truth.proofs.Matching.{Asked, asks_none, asks_form, asks_test, asked, asked_there}
use Rattle.form_truth.proofs.Varying.{value_known, argument_open, grid_open, grid_known}

-- ---- SUMIF
module _ (tested criterion : AbsArg) (h : IsSound tested) (i : IsSound criterion) where
  by_parts : (vs : Option (List Value)) → known_keys (grid_of tested).items ≡ vs → (v : Option Value) → known_value (value_of criterion) ≡ v
      → IsPick (λ x. places_from 0 (functions.value_of (arg_at x criterion)) (functions.elements_of (arg_at x tested))) (tested ∷ criterion ∷ []) (exact (by_known vs v))
  by_parts None d v e = record { argument = tested; is_there = refl; varies = grid_open tested h d }
  by_parts (Some vs) d None e = record { argument = criterion; is_there = refl; varies = argument_open criterion i e }
  by_parts (Some vs) d (Some v) e = λ x. ap₂ (places_from 0) (value_at x criterion ∙ value_known (value_of criterion) v e x) (grid_known tested vs d x)

pub places_are_right : PlacesAreRight
places_are_right tested criterion = by_parts tested criterion (arg_sound tested) (arg_sound criterion) (known_keys (grid_of tested).items) refl (known_value (value_of criterion)) refl

-- ---- CHOOSE
module _ (place : AbsArg) (choices : List AbsArg) where
  abbrev number : Assignment → Result ℚ ErrorKind
  number x = numbers.number_of (arg_at x place)

  by_constant : (f : AffineForm) → ((x : Assignment) → number x ≡ Ok (worth x f)) → (c : Option ℚ) → constant_of f ≡ c → (c ≡ None → ArgumentVaries arg_at (place ∷ choices) 0)
      → IsPick (λ x. chosen_by choices (number x)) (place ∷ choices) (exact (choose_by choices c))
  by_constant f d None e v = v refl
  by_constant f d (Some c) e v = λ x. ap (chosen_by choices) (d x ∙ ap Ok (constant_is f c e x))

  by_number : (w : Wanted) → Asked (ArgumentVaries arg_at (place ∷ choices) 0) number w → IsPick (λ x. chosen_by choices (number x)) (place ∷ choices) (exact (choose_of choices w))
  by_number (none k) (asks_none l d) = λ x. ap (chosen_by choices) (d x)
  by_number (form f) (asks_form g d v) = by_constant g d (constant_of g) refl v
  by_number open_test (asks_test d v) = v

pub chosen_is_right : ChosenIsRight
chosen_is_right place choices =
    by_number place choices (number_of place) (asked_there (place ∷ choices) 0 place refl (λ x. numbers.number_of (arg_at x place)) (number_of place) (asked place (number_of place) (fits (value_of place) (abs_sound (value_of place)))))

-- ---- choices that are certainly the error for no choice
-- elements that are this error alone
one_error : (items : List Abs) → is_value_error items ≡ true → items ≡ Known (Error kind.Value) ∷ []
one_error [] h = absurd (true≢false (sym h))
one_error (Known (Error kind.Value) ∷ []) h = refl
one_error (Known (Error kind.Div0) ∷ []) h = absurd (true≢false (sym h))
one_error (Known (Error kind.Ref) ∷ []) h = absurd (true≢false (sym h))
one_error (Known (Error kind.Num) ∷ []) h = absurd (true≢false (sym h))
one_error (Known (Error kind.NotAvailable) ∷ []) h = absurd (true≢false (sym h))
one_error (Known (Error kind.Circular) ∷ []) h = absurd (true≢false (sym h))
one_error (Known (Error kind.Malformed) ∷ []) h = absurd (true≢false (sym h))
one_error (Known (Number y) ∷ []) h = absurd (true≢false (sym h))
one_error (Known (Text y) ∷ []) h = absurd (true≢false (sym h))
one_error (Known (Logical y) ∷ []) h = absurd (true≢false (sym h))
one_error (Known Empty ∷ []) h = absurd (true≢false (sym h))
one_error (Known (Error kind.Value) ∷ b ∷ items) h = absurd (true≢false (sym h))
one_error (Known (Error kind.Div0) ∷ b ∷ items) h = absurd (true≢false (sym h))
one_error (Known (Error kind.Ref) ∷ b ∷ items) h = absurd (true≢false (sym h))
one_error (Known (Error kind.Num) ∷ b ∷ items) h = absurd (true≢false (sym h))
one_error (Known (Error kind.NotAvailable) ∷ b ∷ items) h = absurd (true≢false (sym h))
one_error (Known (Error kind.Circular) ∷ b ∷ items) h = absurd (true≢false (sym h))
one_error (Known (Error kind.Malformed) ∷ b ∷ items) h = absurd (true≢false (sym h))
one_error (Known (Number y) ∷ b ∷ items) h = absurd (true≢false (sym h))
one_error (Known (Text y) ∷ b ∷ items) h = absurd (true≢false (sym h))
one_error (Known (Logical y) ∷ b ∷ items) h = absurd (true≢false (sym h))
one_error (Known Empty ∷ b ∷ items) h = absurd (true≢false (sym h))
one_error (Affine f ∷ items) h = absurd (true≢false (sym h))
one_error (Test f r ∷ items) h = absurd (true≢false (sym h))

pub no_choice_at : (x : Assignment) (a : AbsArg) → is_no_choice a ≡ true → single (arg_at x a) ≡ arg.One (Error kind.Value)
no_choice_at x (One a) h = let s : a ≡ Known (Error kind.Value) = (let e = one_error (a ∷ []) h in cc) in ap (λ b. single (arg_at x (One b))) s
no_choice_at x (Area g) h =
    ap (λ items. single (arg.Area (record { rows = g.rows; columns = g.columns; items = map (abs_at x) items }))) (one_error g.items h)

choice_certain : (x : Assignment) (choices : List AbsArg) (n : ℕ) → list_all is_no_choice choices ≡ true → worth_chosen x (found_choice (slice_get choices n)) ≡ arg.One (Error kind.Value)
choice_certain x [] n h = refl
choice_certain x (a ∷ choices) zero h = no_choice_at x a (and_parts (is_no_choice a) (list_all is_no_choice choices) h).0
choice_certain x (a ∷ choices) (suc n) h = choice_certain x choices n (and_parts (is_no_choice a) (list_all is_no_choice choices) h).1

pub certain_is_chosen : CertainIsChosen
certain_is_chosen x choices (pos zero) h = refl
certain_is_chosen x choices (pos (suc n)) h = choice_certain x choices n h
certain_is_chosen x choices (negsuc n) h = refl
