-- ABS, INT, MOD and the call of POWER on open values.
use Rattle.std.specs.Prelude.{◌≢◌, IsTrue, pos}
use Rattle.std.specs.List.{AllByRecursion, list_all}
use Rattle.std.proofs.Common.{◌≡◌, refl, sym, ap, ap₂, ◌∙◌, Bool, true, false, true≢false, if◌then◌else◌, ◌⊎◌, inl, inr, [], ◌∷◌, Option, Some, None}
use Rattle.fractions.specs.Rational.{ℚ, zero_ℚ, one_ℚ, ◌+ℚ◌, neg_ℚ, ◌*ℚ◌, ◌/ℚ◌, inv_ℚ, le_ℚ, computed}
use Rattle.fractions.specs.Floor.{floor_ℚ}
use Rattle.fractions.specs.Whole.{whole_ℚ}
use Rattle.fractions.proofs.Laws.{mul_comm, mul_assoc, mul-one, mul-zero, neg-zero, add-zero, add-neg}
use Rattle.fractions.proofs.Field.{ordered_field}
use Rattle.calculations.specs.Calculation.{exact, sum, product, quotient, done, after, turned_into}
use Rattle.affine_forms.proofs.Exact.{exact-turned_into}
use Rattle.cell_refs.specs.declared.error_kind.ErrorKind.{ErrorKind}
use Rattle.cell_refs.specs.declared.error_kind.ErrorKind.TheVariants as kind
use Rattle.sheet_model.specs.Tests.{is_zero}
use Rattle.sheet_model.specs.Operators.{raised}
use Rattle.sheet_model.specs.declared.value.Value.{Value}
use Rattle.sheet_model.specs.declared.value.Value.TheVariants.{Number, Error}
use Rattle.sheet_model.specs.declared.grid.Arg.TheVariants as arg
use Rattle.sheet_funcs.specs.Arguments.{answered, counted}
use Rattle.sheet_funcs.specs.Rounding.{rounded, magnitude, abs_of, int_of, remainder, mod_of, power_of}
use Rattle.affine_forms.specs.Forms.{AffineForm, IsForm, worth, has_terms}
use Rattle.form_values.specs.Meaning.{arg_at, elements_of}
use Rattle.form_values.proofs.Opening.{IsAbs, IsOpen}
use Rattle.form_values.specs.Refusals.{Bends, jumps, middle}
use Rattle.form_values.specs.Trials.{breaks}
use Rattle.form_values.specs.declared.abs.Abs.{Abs}
use Rattle.form_values.specs.declared.abs.AbsArg.{AbsArg}
use Rattle.form_table.specs.Wanted.{value_of, constant_of, certain_by}
use Rattle.form_values.specs.Known.{all_known}
use Rattle.form_table.specs.Operators.{zero_divisor, no_exponent, power_row}
use Rattle.form_table.specs.Rounding.{bent_form, mod_form, power_form}
use Rattle.form_truth.proofs.Right.{IsRightArg}
use Rattle.form_truth.proofs.Fitting.{constant_is, open_is, at_value, at_value_worth, zero_is_not_one}
use Rattle.form_truth.proofs.Bending.{some_product}
use Rattle.form_truth.proofs.Numbers.{RowIsRight}
use Rattle.form_truth.proofs.Arithmetic.{zero_is_zero, one_is_not_zero}
use Rattle.form_truth.proofs.Raising.{power_is_right}
use Rattle.form_truth.proofs.Calls.{bends_by, same_bends, one_unknown, bent_right, call_right}

-- ---- ABS: at -1, 0 and 1
magnitude_below : magnitude (neg_ℚ one_ℚ) ≡ one_ℚ
unfolding computed
magnitude_below = refl

magnitude_above : magnitude one_ℚ ≡ one_ℚ
unfolding computed
magnitude_above = refl

magnitude_zero : magnitude zero_ℚ ≡ zero_ℚ
unfolding computed
magnitude_zero = refl

middle_zero : middle (neg_ℚ one_ℚ) one_ℚ ≡ zero_ℚ
unfolding computed
middle_zero = refl

middle_one : middle one_ℚ one_ℚ ≡ one_ℚ
unfolding computed
middle_one = refl

magnitude_bends : (f : AffineForm) → IsOpen f → Bends (λ x. Number (magnitude (worth x f)))
magnitude_bends =
    bends_by magnitude (neg_ℚ one_ℚ) one_ℚ
    (λ e. zero_is_not_one (sym (ap magnitude middle_zero ∙ magnitude_zero) ∙ e ∙ ap₂ middle magnitude_below magnitude_above ∙ middle_one))

pub abs_right : (a : AbsArg) → AllByRecursion IsAbs (elements_of a) → list_all all_known (a ∷ []) ≡ false → IsRightArg (λ x. exact (abs_of (arg_at x a))) (a ∷ []) (exact (bent_form a))
abs_right a h n = bent_right (λ p. Number (magnitude p)) magnitude_bends a h (one_unknown a n) (λ p. answered (Number (magnitude p))) (λ p. refl)

-- ---- INT: at 0, 1/2 and 1
pub rounded_zero : rounded zero_ℚ ≡ zero_ℚ
unfolding computed floor_ℚ
rounded_zero = refl

pub rounded_one : rounded one_ℚ ≡ one_ℚ
unfolding computed floor_ℚ
rounded_one = refl

rounded_between : rounded (middle zero_ℚ one_ℚ) ≡ zero_ℚ
unfolding computed floor_ℚ
rounded_between = refl

between_above : le_ℚ (middle zero_ℚ one_ℚ) zero_ℚ ≡ false
unfolding computed
between_above = refl

zero_at_most : le_ℚ zero_ℚ zero_ℚ ≡ true
unfolding computed
zero_at_most = refl

between_is_some : zero_ℚ ≢ middle zero_ℚ one_ℚ
between_is_some e = true≢false (sym zero_at_most ∙ ap (λ t. le_ℚ t zero_ℚ) e ∙ between_above)

no_middle : middle zero_ℚ zero_ℚ ≡ zero_ℚ
unfolding computed
no_middle = refl

rounded_bends : (f : AffineForm) → IsOpen f → Bends (λ x. Number (rounded (worth x f)))
rounded_bends = bends_by rounded zero_ℚ one_ℚ (λ e. between_is_some (sym rounded_between ∙ e ∙ ap₂ middle rounded_zero rounded_one))

pub int_right : (a : AbsArg) → AllByRecursion IsAbs (elements_of a) → list_all all_known (a ∷ []) ≡ false → IsRightArg (λ x. exact (int_of (arg_at x a))) (a ∷ []) (exact (bent_form a))
int_right a h n = bent_right (λ p. Number (rounded p)) rounded_bends a h (one_unknown a n) (λ p. answered (Number (rounded p))) (λ p. refl)

-- ---- MOD
abbrev left_over : ℚ → ℚ → ℚ
left_over p y = p +ℚ neg_ℚ (y *ℚ rounded (p /ℚ y))

abbrev rest_by : Bool → ℚ → ℚ → Value
rest_by b p y = if b then Error kind.Div0 else Number (left_over p y)

abbrev rest_value : ℚ → ℚ → Value
rest_value p y = rest_by (is_zero y) p y

remainder_is : (p y : ℚ) → exact (remainder p y) ≡ arg.One (rest_value p y)
remainder_is p y = by_test (is_zero y)
  where
    by_test : (b : Bool)
        → exact (if b then answered (Error kind.Div0) else counted (after (quotient p y) (λ q. after (product y (rounded q)) (λ r. after (sum p (neg_ℚ r)) done)))) ≡ arg.One (rest_by b p y)
    by_test true = refl
    by_test false = refl

rest_fault : (p y : ℚ) (k : ErrorKind) → zero_divisor y ≡ Some k → rest_value p y ≡ Error k
rest_fault p y k e = by_test (is_zero y) e
  where
    by_test : (b : Bool) → (if b then Some kind.Div0 else None) ≡ Some k → rest_by b p y ≡ Error k
    by_test true e = let s : kind.Div0 ≡ k = cc in ap Error s
    by_test false e = cc

no_divisor : (y : ℚ) → zero_divisor y ≡ None → is_zero y ≡ false
no_divisor y e = by_test (is_zero y) e
  where
    by_test : (b : Bool) → (if b then Some kind.Div0 else None) ≡ None → b ≡ false
    by_test true e = cc
    by_test false e = refl

-- of a multiple of the divisor
module _ (y : ℚ) (n : y ≢ zero_ℚ) where
  multiple_over : (q : ℚ) → (y *ℚ q) /ℚ y ≡ q
  multiple_over q = ap (λ t. t *ℚ inv_ℚ y) (mul_comm y q) ∙ mul_assoc q y (inv_ℚ y) ∙ ap (λ t. q *ℚ t) (ordered_field.mul-inv y n) ∙ mul-one q

  multiple_rest : (q r : ℚ) → rounded q ≡ r → left_over (y *ℚ q) y ≡ y *ℚ q +ℚ neg_ℚ (y *ℚ r)
  multiple_rest q r e = ap (λ t. y *ℚ q +ℚ neg_ℚ (y *ℚ rounded t)) (multiple_over q) ∙ ap (λ t. y *ℚ q +ℚ neg_ℚ (y *ℚ t)) e

  none_over : (q : ℚ) → rounded q ≡ q → left_over (y *ℚ q) y ≡ zero_ℚ
  none_over q e = multiple_rest q q e ∙ add-neg (y *ℚ q)

  all_over : (q : ℚ) → rounded q ≡ zero_ℚ → left_over (y *ℚ q) y ≡ y *ℚ q
  all_over q e = multiple_rest q zero_ℚ e ∙ ap (λ t. y *ℚ q +ℚ neg_ℚ t) (mul-zero y) ∙ ap (λ t. y *ℚ q +ℚ t) neg-zero ∙ add-zero (y *ℚ q)

  pub between_multiples : middle (y *ℚ zero_ℚ) (y *ℚ one_ℚ) ≡ y *ℚ middle zero_ℚ one_ℚ
  between_multiples = ap (λ t. t *ℚ inv_ℚ (whole_ℚ (pos 2))) (sym (ordered_field.mul-add y zero_ℚ one_ℚ)) ∙ mul_assoc y (zero_ℚ +ℚ one_ℚ) (inv_ℚ (whole_ℚ (pos 2)))

  -- at 0 and at the divisor nothing is left over, and between them all of it
  left_over_bends : (f : AffineForm) → IsOpen f → Bends (λ x. Number (left_over (worth x f) y))
  left_over_bends =
      bends_by (λ p. left_over p y) (y *ℚ zero_ℚ) (y *ℚ one_ℚ)
      (λ e.
      some_product y (middle zero_ℚ one_ℚ) n (λ s. between_is_some (sym s))
      (sym (ap (λ p. left_over p y) between_multiples ∙ all_over (middle zero_ℚ one_ℚ) rounded_between) ∙ e ∙ ap₂ middle (none_over zero_ℚ rounded_zero) (none_over one_ℚ rounded_one) ∙ no_middle))

-- an open divisor is 0 at one assignment and 1 at another
open_divisor_bends : (f g : AffineForm) → IsOpen g → Bends (λ x. rest_value (worth x f) (worth x g))
open_divisor_bends f g h =
    let z = at_value g h zero_ℚ in
    let u = at_value g h one_ℚ in
    let at_zero : rest_value (worth z f) (worth z g) ≡ Error kind.Div0 = ap (λ b. rest_by b (worth z f) (worth z g)) (zero_is_zero (worth z g) (at_value_worth g h zero_ℚ)) in
    let at_one : rest_value (worth u f) (worth u g) ≡ Number (left_over (worth u f) (worth u g)) = ap (λ b. rest_by b (worth u f) (worth u g)) (one_is_not_zero (worth u g) (at_value_worth g h one_ℚ)) in
    jumps z u (λ e. let s : Error kind.Div0 ≡ Number (left_over (worth u f) (worth u g)) = sym at_zero ∙ e ∙ at_one in cc) (λ n m. let s : Error kind.Div0 ≡ Number n.0 = sym at_zero ∙ n.1 in cc)

-- where the second is known, the first is open
pub open_first : (f g : AffineForm) (y : ℚ) → constant_of g ≡ Some y → IsTrue (has_terms f) ⊎ IsTrue (has_terms g) → IsTrue (has_terms f)
open_first f g y s (inl h) = h
open_first f g y s (inr h) = let t : constant_of g ≡ None = ap (λ b. if b then None else Some g.constant) h in cc

rest_bends : (f g : AffineForm) → IsForm f → IsForm g → IsTrue (has_terms f) ⊎ IsTrue (has_terms g) → (l : Option ℚ) → constant_of g ≡ l → certain_by zero_divisor l ≡ None
    → Bends (λ x. rest_value (worth x f) (worth x g))
rest_bends f g i j o None e n = open_divisor_bends f g (j, open_is g e)
rest_bends f g i j o (Some y) e n =
    same_bends _ (λ x. Number (left_over (worth x f) y)) (λ x. sym (ap (λ w. rest_value (worth x f) w) (constant_is g y e x) ∙ ap (λ b. rest_by b (worth x f) y) (no_divisor y n)))
    (left_over_bends y (λ z. true≢false (sym (zero_is_zero y z) ∙ no_divisor y n)) f (i, open_first f g y e o))

rest_row : (a b : Abs) → RowIsRight a b (λ p y. done (rest_value p y)) zero_divisor (λ f g. breaks)
rest_row a b = record {
  errors = rest_fault;
  forms = λ f g i j d e o n. rest_bends f g i j o (constant_of g) refl n;
}

pub mod_right : (a b : AbsArg) → AllByRecursion IsAbs (elements_of a) → AllByRecursion IsAbs (elements_of b) → list_all all_known (a ∷ b ∷ []) ≡ false
    → IsRightArg (λ x. exact (mod_of (arg_at x a) (arg_at x b))) (a ∷ b ∷ []) (exact (mod_form a b))
mod_right a b h k n = call_right (λ p y. done (rest_value p y)) zero_divisor (λ f g. breaks) remainder remainder_is a b h k n (rest_row (value_of a) (value_of b))

-- ---- POWER
pub power_right : (a b : AbsArg) → AllByRecursion IsAbs (elements_of a) → AllByRecursion IsAbs (elements_of b) → list_all all_known (a ∷ b ∷ []) ≡ false
    → IsRightArg (λ x. exact (power_of (arg_at x a) (arg_at x b))) (a ∷ b ∷ []) (exact (power_form a b))
power_right a b h k n = call_right raised no_exponent power_row (λ p y. turned_into arg.One (raised p y)) (λ p y. exact-turned_into arg.One (raised p y)) a b h k n (power_is_right (value_of a) (value_of b))
