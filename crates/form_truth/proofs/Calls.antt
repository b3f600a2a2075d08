-- Functions of one and of two numbers, some of which are open.
use Rattle.std.specs.Prelude.{◌≢◌, IsTrue, ◌&&◌}
use Rattle.std.specs.List.{AllByRecursion, list_all}
use Rattle.std.proofs.Common.{◌≡◌, refl, sym, ap, ap₂, ◌∙◌, subst, Bool, true, false, true≢false, ◌⊎◌, inl, inr, List, [], ◌∷◌, Option, Result, Ok, Err}
use Rattle.fractions.specs.Rational.{ℚ, zero_ℚ}
use Rattle.calculations.specs.Calculation.{Calculation, exact}
use Rattle.cell_refs.specs.declared.error_kind.ErrorKind.{ErrorKind}
use Rattle.cell_refs.specs.declared.error_kind.ErrorKind.TheVariants as kind
use Rattle.sheet_model.specs.Conversions.{number_in}
use Rattle.sheet_model.specs.Operators.{on_numbers}
use Rattle.sheet_model.specs.declared.value.Value.{Value}
use Rattle.sheet_model.specs.declared.value.Value.TheVariants.{Number, Error}
use Rattle.sheet_model.specs.declared.grid.Arg.{Arg}
use Rattle.sheet_model.specs.declared.grid.Arg.TheVariants as arg
use Rattle.sheet_funcs.specs.Arguments.{on_ok}
use Rattle.sheet_funcs.specs.Rounding as numbers
use Rattle.affine_forms.specs.Forms.{Assignment, AffineForm, IsForm, worth, has_terms}
use Rattle.form_values.specs.Meaning.{abs_at, arg_at, elements_of}
use Rattle.form_values.proofs.Opening.{IsAbs, IsOpen}
use Rattle.form_values.specs.Refusals.{Bends, bends, middle, midpoint}
use Rattle.form_values.specs.Trials.{Trial, breaks, one}
use Rattle.form_values.specs.declared.abs.Abs.{Abs}
use Rattle.form_values.specs.declared.abs.Abs.TheVariants.{Known, Affine, Test}
use Rattle.form_values.specs.declared.abs.AbsArg.{AbsArg}
use Rattle.form_values.specs.declared.abs.AbsArg.TheVariants.{One, Area}
use Rattle.form_table.specs.Wanted as wanted
use Rattle.form_table.specs.Wanted.{Wanted, form, open_test, none, of_number, value_of, on_form, on_forms}
use Rattle.form_values.specs.Known.{is_known, all_known}
use Rattle.form_table.specs.Rounding.{bent_form}
use Rattle.form_truth.proofs.Right.{IsRight, IsRightArg}
use Rattle.form_truth.proofs.Arguments.{value_at, value_sound, argument_varies}
use Rattle.form_truth.proofs.Fitting.{Fits, is_none, is_form, is_open, fits, at_value, at_value_worth}
use Rattle.form_truth.proofs.Middles.{worth_middle}
use Rattle.form_truth.proofs.Numbers.{RowIsRight, on_forms_right}
use Rattle.form_truth.proofs.Lifting.{EachIsRight, single_right, from_right}

-- an argument whose one value is a known number is known
no_number : (v : Value) (p : ℚ) → Known (Error kind.Value) ≡ Known v → number_in v ≡ Ok p → ⊥
no_number v p e d =
    let s : Error kind.Value ≡ v = cc in
    let t : Err kind.Value ≡ Ok p = ap number_in s ∙ d in
    cc

pub number_known : (a : AbsArg) (v : Value) (p : ℚ) → value_of a ≡ Known v → number_in v ≡ Ok p → all_known a ≡ true
number_known (One a) v p e d = ap (λ a. list_all is_known (a ∷ [])) e
number_known (Area g) v p e d = by_items g.items e
  where
    by_items : (items : List Abs) → wanted.only_of items ≡ Known v → list_all is_known items ≡ true
    by_items [] e = absurd (no_number v p e d)
    by_items (a ∷ []) e = ap (λ a. list_all is_known (a ∷ [])) e
    by_items (a ∷ b ∷ items) e = absurd (no_number v p e d)

both_known : (a b : AbsArg) → all_known a ≡ true → all_known b ≡ true → list_all all_known (a ∷ b ∷ []) ≡ true
both_known a b e d = ap₂ (λ s t. s && (t && true)) e d

pub one_unknown : (a : AbsArg) → list_all all_known (a ∷ []) ≡ false → all_known a ≡ false
one_unknown a e = by_test (all_known a) e
  where
    by_test : (b : Bool) → (b && true) ≡ false → b ≡ false
    by_test true e = absurd (true≢false e)
    by_test false e = refl

-- ---- a function of one number that bends
-- at three numbers
pub bends_by : (value : ℚ → ℚ) (u v : ℚ) → value (middle u v) ≢ middle (value u) (value v) → (f : AffineForm) → IsOpen f → Bends (λ x. Number (value (worth x f)))
bends_by value u v n f h =
    let z = at_value f h u in
    let t = at_value f h v in
    let between : worth (midpoint z t) f ≡ middle u v = worth_middle z t f ∙ ap₂ middle (at_value_worth f h u) (at_value_worth f h v) in
    bends z t (value u) (value v) (ap (λ w. Number (value w)) (at_value_worth f h u)) (ap (λ w. Number (value w)) (at_value_worth f h v))
    (λ e. n (let s : value (worth (midpoint z t) f) ≡ middle (value u) (value v) = cc in ap value (sym between) ∙ s))

pub same_bends : (v w : Assignment → Value) → ((x : Assignment) → w x ≡ v x) → Bends w → Bends v
same_bends v w e h = subst (λ (v : Assignment → Value). Bends v) (λ i x. e x i) h

module _ (value : ℚ → Value) (bent : (f : AffineForm) → IsOpen f → Bends (λ x. value (worth x f))) (a : AbsArg) (sound : AllByRecursion IsAbs (elements_of a)) (unknown : all_known a ≡ false) where
  abbrev on_value : Result ℚ ErrorKind → Value
  on_value (Ok p) = value p
  on_value (Err k) = Error k

  abbrev at_one : Assignment → Abs → Value
  at_one x b = on_value (number_in (abs_at x b))

  form_open : (f : AffineForm) → IsForm f → ((v : Value) × (value_of a ≡ Known v)) ⊎ IsTrue (has_terms f) → ((x : Assignment) → number_in (abs_at x (value_of a)) ≡ Ok (worth x f)) → IsOpen f
  form_open f i (inr h) d = (i, h)
  form_open f i (inl v) d =
      let x : Assignment = (λ j. zero_ℚ) in
      absurd (true≢false (sym (number_known a v.0 (worth x f) v.1 (ap (λ b. number_in (abs_at x b)) (sym v.1) ∙ d x)) ∙ unknown))

  by_fit : (w : Wanted) → Fits (value_of a) w → EachIsRight (λ (b : Abs). on_form (λ f. breaks) w) at_one (a ∷ []) (value_of a) (exact (on_form (λ f. breaks) w))
  by_fit (none k) (is_none l d) = λ x. ap on_value (d x)
  by_fit (form f) (is_form g i u d) = same_bends _ (λ x. value (worth x g)) (λ x. sym (ap on_value (d x))) (bent g (form_open g i u d))
  by_fit open_test (is_open d v) = record { argument = a; is_there = refl; varies = argument_varies a v }

  module _ (function : ℚ → Calculation Arg) (is : (p : ℚ) → exact (function p) ≡ arg.One (value p)) where
    value_is : (r : Result ℚ ErrorKind) → exact (on_ok r function) ≡ arg.One (on_value r)
    value_is (Ok p) = is p
    value_is (Err k) = refl

    pub bent_right : IsRightArg (λ x. exact (on_ok (numbers.number_of (arg_at x a)) function)) (a ∷ []) (exact (bent_form a))
    bent_right =
        single_right (λ (b : Abs). on_form (λ f. breaks) (wanted.wanted (value_of a))) at_one (a ∷ []) (value_of a) (λ x. exact (on_ok (numbers.number_of (arg_at x a)) function))
        (λ x. ap (λ v. exact (on_ok (number_in v) function)) (value_at x a) ∙ value_is (number_in (abs_at x (value_of a))))
        (by_fit (wanted.wanted (value_of a)) (fits (value_of a) (value_sound a sound)))

-- ---- a function of two numbers
module _ (value : ℚ → ℚ → Calculation Value) (certain : ℚ → Option ErrorKind) (row : AffineForm → AffineForm → Trial Abs) where
  -- of two values that aren't both known numbers
  two_right : (a b : Abs) → IsAbs a → IsAbs b → ((v w : Value) (p q : ℚ) → a ≡ Known v → b ≡ Known w → number_in v ≡ Ok p → number_in w ≡ Ok q → ⊥) → RowIsRight a b value certain row
      → IsRight (λ x. exact (on_numbers value (number_in (abs_at x a)) (number_in (abs_at x b)))) (a ∷ b ∷ []) (exact (on_forms certain row (wanted.wanted a) (wanted.wanted b)))
  two_right (Known v) (Known w) i j n h = by_numbers (number_in v) (number_in w) refl refl
    where
      by_numbers : (r s : Result ℚ ErrorKind) → number_in v ≡ r → number_in w ≡ s → IsRight (λ x. exact (on_numbers value (number_in v) (number_in w))) (Known v ∷ Known w ∷ []) (exact (on_forms certain row (of_number r) (of_number s)))
      by_numbers (Err k) s d e = λ x. ap (λ l. exact (on_numbers value l (number_in w))) d
      by_numbers (Ok p) (Err k) d e = λ x. ap₂ (λ l m. exact (on_numbers value l m)) d e
      by_numbers (Ok p) (Ok q) d e = absurd (n v w p q refl refl d e)
  two_right (Known v) (Affine g) i j n h = on_forms_right (Known v) (Affine g) value certain row (λ v w e d. cc) h _ _ (fits (Known v) i) (fits (Affine g) j)
  two_right (Known v) (Test g s) i j n h = on_forms_right (Known v) (Test g s) value certain row (λ v w e d. cc) h _ _ (fits (Known v) i) (fits (Test g s) j)
  two_right (Affine f) b i j n h = on_forms_right (Affine f) b value certain row (λ v w e d. cc) h _ _ (fits (Affine f) i) (fits b j)
  two_right (Test f r) b i j n h = on_forms_right (Test f r) b value certain row (λ v w e d. cc) h _ _ (fits (Test f r) i) (fits b j)

  module _ (function : ℚ → ℚ → Calculation Arg) (is : (p q : ℚ) → exact (function p q) ≡ arg.One (exact (value p q))) where
    numbers_are : (r s : Result ℚ ErrorKind) → exact (on_ok r (λ p. on_ok s (function p))) ≡ arg.One (exact (on_numbers value r s))
    numbers_are (Err k) s = refl
    numbers_are (Ok p) (Err k) = refl
    numbers_are (Ok p) (Ok q) = is p q

    pub call_right : (a b : AbsArg) → AllByRecursion IsAbs (elements_of a) → AllByRecursion IsAbs (elements_of b) → list_all all_known (a ∷ b ∷ []) ≡ false → RowIsRight (value_of a) (value_of b) value certain row
        → IsRightArg (λ x. exact (on_ok (numbers.number_of (arg_at x a)) (λ p. on_ok (numbers.number_of (arg_at x b)) (function p)))) (a ∷ b ∷ [])
        (exact (one (on_forms certain row (wanted.number_of a) (wanted.number_of b))))
    call_right a b h k n r =
        single_right (λ (c : Abs). on_forms certain row (wanted.wanted c) (wanted.wanted (value_of b))) (λ x c. exact (on_numbers value (number_in (abs_at x c)) (number_in (abs_at x (value_of b))))) (a ∷ b ∷ []) (value_of a) _
        (λ x.
        ap₂ (λ v w. exact (on_ok (number_in v) (λ p. on_ok (number_in w) (function p)))) (value_at x a) (value_at x b)
        ∙ numbers_are (number_in (abs_at x (value_of a))) (number_in (abs_at x (value_of b))))
        (from_right (value_of a) (value_of b) a b (argument_varies a) (argument_varies b) (λ (c : Abs). on_forms certain row (wanted.wanted c) (wanted.wanted (value_of b)))
        (λ x c. exact (on_numbers value (number_in (abs_at x c)) (number_in (abs_at x (value_of b))))) (value_of a) (exact (on_forms certain row (wanted.wanted (value_of a)) (wanted.wanted (value_of b))))
        (two_right (value_of a) (value_of b) (value_sound a h) (value_sound b k)
        (λ v w p q e d s t. true≢false (sym (both_known a b (number_known a v p e s) (number_known b w q d t)) ∙ n)) r))
