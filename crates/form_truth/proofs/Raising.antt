-- Powers of open values.
use Rattle.std.specs.Prelude.{IsTrue, not, ◌&&◌, ◌==◌, ◌≤ℤ◌, ◌<ℤ◌, ℤ}
use Rattle.std.proofs.Common.{◌≡◌, refl, sym, ap, ap₂, ◌∙◌, subst, Bool, true, false, true≢false, if◌then◌else◌, ◌⊎◌, inl, inr, [], ◌∷◌, Option, Some, None, ℕ, zero, suc, pos, negsuc, arith}
use Rattle.std.proofs.lemmas.Bool.{eqb-true}
use Rattle.std.proofs.lemmas.Int.{ints}
use Rattle.fractions.specs.Rational.{ℚ, zero_ℚ, one_ℚ, ◌+ℚ◌, ◌*ℚ◌, eq_ℚ, le_ℚ, numerator, denominator, frac, ◌≤ℚ◌, ◌<ℚ◌, computed}
use Rattle.fractions.specs.Whole.{whole_ℚ}
use Rattle.fractions.specs.Power.{power_ℚ, repeated}
use Rattle.fractions.proofs.Parts.{frac_self}
use Rattle.fractions.proofs.Whole.{whole-zero, whole-one, whole-le, whole-lt}
use Rattle.fractions.proofs.Order.{eq_iff, add-le-add, le_trans, le_refl, zero_lt_one, le_of_lt}
use Rattle.fractions.proofs.Tests.{le_iff, lt_iff}
use Rattle.fractions.proofs.Laws.{mul-one, zero-mul, zero-add, add-zero, mul_comm}
use Rattle.fractions.proofs.Quote.{quotes, by_ring}
use Rattle.calculations.specs.Calculation.{Calculation, exact, power, done}
use Rattle.cell_refs.specs.declared.error_kind.ErrorKind.{ErrorKind}
use Rattle.cell_refs.specs.declared.error_kind.ErrorKind.TheVariants as kind
use Rattle.sheet_model.specs.Tests.{is_zero, is_negative, is_exponent}
use Rattle.sheet_model.specs.Operators.{calculated, raised}
use Rattle.sheet_model.specs.declared.value.Value.{Value}
use Rattle.sheet_model.specs.declared.value.Value.TheVariants.{Number, Error}
use Rattle.affine_forms.specs.Forms.{Assignment, AffineForm, IsForm, worth, has_terms}
use Rattle.form_values.proofs.Opening.{IsOpen}
use Rattle.form_values.specs.Refusals.{Bends, bends, jumps, middle, midpoint}
use Rattle.form_values.specs.Trials.{given, breaks}
use Rattle.form_values.specs.declared.abs.Abs.{Abs}
use Rattle.form_values.specs.declared.abs.Abs.TheVariants.{Known}
use Rattle.form_table.specs.Wanted.{constant_of, certain_by}
use Rattle.form_values.specs.Entries.{entry}
use Rattle.form_table.specs.Operators.{raised_to, power_row, no_exponent}
use Rattle.form_truth.proofs.Right.{IsRight}
use Rattle.form_truth.proofs.Fitting.{entry_at, constant_is, open_is, at_value, at_value_worth}
use Rattle.form_truth.proofs.Bending.{twice_middle}
use Rattle.form_truth.proofs.Middles.{worth_middle}
use Rattle.form_truth.proofs.Numbers.{RowIsRight}
use Rattle.form_truth.proofs.Arithmetic.{zero_test, zero_is_zero, one_is_not_zero}
use Rattle.form_truth.proofs.Sameness.{both_true}

-- ---- the three results of a power
abbrev by_tests : Bool → Bool → ℚ → ℚ → Calculation Value
by_tests a b p y = if not a then done (Error kind.Num) else if b then done (Error kind.Div0) else calculated (power p (numerator y))

raised_fault : (p y : ℚ) → is_exponent y ≡ false → exact (raised p y) ≡ Error kind.Num
raised_fault p y e = ap (λ a. exact (by_tests a (is_zero p && is_negative y) p y)) e

raised_zero : (p y : ℚ) → is_exponent y ≡ true → is_zero p ≡ true → is_negative y ≡ true → exact (raised p y) ≡ Error kind.Div0
raised_zero p y e z n = ap (λ a. exact (by_tests a (is_zero p && is_negative y) p y)) e ∙ ap₂ (λ b c. exact (by_tests true (b && c) p y)) z n

raised_number : (p y : ℚ) → is_exponent y ≡ true → (is_zero p && is_negative y) ≡ false → exact (raised p y) ≡ Number (power_ℚ p (numerator y))
raised_number p y e n = ap (λ a. exact (by_tests a (is_zero p && is_negative y) p y)) e ∙ ap (λ b. exact (by_tests true b p y)) n

no_exponent_fault : (p y : ℚ) (k : ErrorKind) → no_exponent y ≡ Some k → exact (raised p y) ≡ Error k
no_exponent_fault p y k s = by_test (is_exponent y) refl s
  where
    by_test : (b : Bool) → is_exponent y ≡ b → (if b then None else Some kind.Num) ≡ Some k → exact (raised p y) ≡ Error k
    by_test true e s = cc
    by_test false e s = let t : kind.Num ≡ k = cc in raised_fault p y e ∙ ap Error t

an_exponent : (y : ℚ) → no_exponent y ≡ None → is_exponent y ≡ true
an_exponent y s = by_test (is_exponent y) s
  where
    by_test : (b : Bool) → (if b then None else Some kind.Num) ≡ None → b ≡ true
    by_test true s = refl
    by_test false s = cc

-- ---- exponents are whole
whole_exponent : (y : ℚ) → is_exponent y ≡ true → y ≡ whole_ℚ (numerator y)
whole_exponent y e =
    let d : denominator y ≡ 1 = eqb-true (denominator y) 1 (both_true (denominator y == 1) _ e).0 in
    sym (frac_self y) ∙ ap (frac (numerator y)) d

not_second : (b c : Bool) → c ≡ false → (b && c) ≡ false
not_second true c e = e
not_second false c e = refl

not_first : (b c : Bool) → b ≡ false → (b && c) ≡ false
not_first b c e = ap (λ b. b && c) e

not_negative : (y : ℚ) → zero_ℚ ≤ℚ y → is_negative y ≡ false
not_negative y h = ap not ((le_iff zero_ℚ y).1 h)

negative : (y : ℚ) → y <ℚ zero_ℚ → is_negative y ≡ true
negative y h = by_test (le_ℚ zero_ℚ y) refl
  where
    by_test : (b : Bool) → le_ℚ zero_ℚ y ≡ b → not b ≡ true
    by_test true e = absurd ((lt_iff y zero_ℚ).0 h ((le_iff zero_ℚ y).0 e))
    by_test false e = refl

zero_power : (p : ℚ) → power_ℚ p (pos 0) ≡ one_ℚ
unfolding power_ℚ
zero_power p = refl

first_power : (p : ℚ) → power_ℚ p (pos 1) ≡ p
unfolding power_ℚ
first_power p = mul-one p

further_power : (p : ℚ) (k : ℕ) → power_ℚ p (pos (suc (suc k))) ≡ p *ℚ (p *ℚ repeated p k)
unfolding power_ℚ
further_power p k = refl

zero_exponent : is_exponent zero_ℚ ≡ true
unfolding computed
zero_exponent = refl

zero_numerator : numerator zero_ℚ ≡ pos 0
unfolding computed
zero_numerator = refl

one_exponent : is_exponent one_ℚ ≡ true
unfolding computed
one_exponent = refl

one_numerator : numerator one_ℚ ≡ pos 1
unfolding computed
one_numerator = refl

-- to the power 0, and to the power 1
raised_by_zero : (p y : ℚ) → y ≡ zero_ℚ → exact (raised p y) ≡ Number one_ℚ
raised_by_zero p y e = ap (λ y. exact (raised p y)) e ∙ raised_number p zero_ℚ zero_exponent (not_second (is_zero p) (is_negative zero_ℚ) (not_negative zero_ℚ (le_refl zero_ℚ))) ∙ ap (λ n. Number (power_ℚ p n)) zero_numerator ∙ ap Number (zero_power p)

raised_by_one : (p y : ℚ) → y ≡ one_ℚ → exact (raised p y) ≡ Number p
raised_by_one p y e =
    ap (λ y. exact (raised p y)) e ∙ raised_number p one_ℚ one_exponent (not_second (is_zero p) (is_negative one_ℚ) (not_negative one_ℚ (le_of_lt _ _ zero_lt_one))) ∙ ap (λ n. Number (power_ℚ p n)) one_numerator ∙ ap Number (first_power p)

half : ℚ
half = frac (pos 1) 2

half_is_none : is_exponent half ≡ false
unfolding computed half
half_is_none = refl

-- ---- an open exponent is 0 at one assignment and 1/2 at another
open_exponent_bends : (f g : AffineForm) → IsOpen g → Bends (λ x. exact (raised (worth x f) (worth x g)))
open_exponent_bends f g h =
    let z = at_value g h zero_ℚ in
    let u = at_value g h half in
    let at_zero : exact (raised (worth z f) (worth z g)) ≡ Number one_ℚ = raised_by_zero (worth z f) (worth z g) (at_value_worth g h zero_ℚ) in
    let at_half : exact (raised (worth u f) (worth u g)) ≡ Error kind.Num = raised_fault (worth u f) (worth u g) (ap is_exponent (at_value_worth g h half) ∙ half_is_none) in
    jumps z u (λ e. let s : Number one_ℚ ≡ Error kind.Num = sym at_zero ∙ e ∙ at_half in cc) (λ n m. let s : Error kind.Num ≡ Number m.0 = sym at_half ∙ m.1 in cc)

-- ---- an open base with a known exponent other than 0 and 1
-- below 0: the base is 0 at one assignment and 1 at another
below_bends : (f : AffineForm) (y : ℚ) → IsOpen f → is_exponent y ≡ true → is_negative y ≡ true → Bends (λ x. exact (raised (worth x f) y))
below_bends f y h e n =
    let z = at_value f h zero_ℚ in
    let u = at_value f h one_ℚ in
    let at_zero : exact (raised (worth z f) y) ≡ Error kind.Div0 = raised_zero (worth z f) y e (zero_is_zero _ (at_value_worth f h zero_ℚ)) n in
    let at_one : exact (raised (worth u f) y) ≡ Number (power_ℚ (worth u f) (numerator y)) = raised_number (worth u f) y e (not_first (is_zero (worth u f)) (is_negative y) (one_is_not_zero _ (at_value_worth f h one_ℚ))) in
    jumps z u (λ s. let t : Error kind.Div0 ≡ Number (power_ℚ (worth u f) (numerator y)) = sym at_zero ∙ s ∙ at_one in cc) (λ a b. let t : Error kind.Div0 ≡ Number a.0 = sym at_zero ∙ a.1 in cc)

-- powers of 1 and of 2
one_repeated : (k : ℕ) → repeated one_ℚ k ≡ one_ℚ
one_repeated zero = refl
one_repeated (suc k) = ap (λ t. one_ℚ *ℚ t) (one_repeated k) ∙ mul-one one_ℚ

abbrev two : ℚ
two = one_ℚ +ℚ one_ℚ

doubled : (t : ℚ) → t +ℚ t ≡ two *ℚ t
doubled t = by_ring (t ∷ []) (search quotes depth 20) (search quotes depth 20) refl

at_least_one : (k : ℕ) → one_ℚ ≤ℚ repeated two k
at_least_one zero = le_refl one_ℚ
at_least_one (suc k) =
    subst (λ t. one_ℚ ≤ℚ t) (doubled (repeated two k))
    (subst (λ t. t ≤ℚ repeated two k +ℚ repeated two k) (add-zero one_ℚ) (add-le-add one_ℚ (repeated two k) zero_ℚ (repeated two k) (at_least_one k) (le_trans _ _ _ (le_of_lt _ _ zero_lt_one) (at_least_one k))))

four_above : le_ℚ (two +ℚ two) two ≡ false
unfolding computed
four_above = refl

middle_of_two : middle zero_ℚ two ≡ one_ℚ
unfolding computed
middle_of_two = refl

-- at 2 or more: the base at 0, 1 and 2
above_bends : (f : AffineForm) (y : ℚ) (k : ℕ) → IsOpen f → is_exponent y ≡ true → is_negative y ≡ false → numerator y ≡ pos (suc (suc k)) → Bends (λ x. exact (raised (worth x f) y))
above_bends f y k h e n s =
    let z = at_value f h zero_ℚ in
    let u = at_value f h two in
    let value : (w : ℚ) → exact (raised w y) ≡ Number (w *ℚ (w *ℚ repeated w k)) = (λ w. raised_number w y e (not_second (is_zero w) (is_negative y) n) ∙ ap (λ m. Number (power_ℚ w m)) s ∙ ap Number (further_power w k)) in
    let at_zero : exact (raised (worth z f) y) ≡ Number zero_ℚ = ap (λ w. exact (raised w y)) (at_value_worth f h zero_ℚ) ∙ value zero_ℚ ∙ ap Number (zero-mul _) in
    let at_two : exact (raised (worth u f) y) ≡ Number (two *ℚ (two *ℚ repeated two k)) = ap (λ w. exact (raised w y)) (at_value_worth f h two) ∙ value two in
    let between : worth (midpoint z u) f ≡ one_ℚ = worth_middle z u f ∙ ap₂ middle (at_value_worth f h zero_ℚ) (at_value_worth f h two) ∙ middle_of_two in
    let at_one : exact (raised (worth (midpoint z u) f) y) ≡ Number one_ℚ = ap (λ w. exact (raised w y)) between ∙ value one_ℚ ∙ ap (λ t. Number (one_ℚ *ℚ (one_ℚ *ℚ t))) (one_repeated k) ∙ ap (λ t. Number (one_ℚ *ℚ t)) (mul-one one_ℚ) ∙ ap Number (mul-one one_ℚ) in
    bends z u zero_ℚ (two *ℚ (two *ℚ repeated two k)) at_zero at_two
    (λ m.
    let d : one_ℚ ≡ middle zero_ℚ (two *ℚ (two *ℚ repeated two k)) = (let q : Number one_ℚ ≡ Number (middle zero_ℚ (two *ℚ (two *ℚ repeated two k))) = sym at_one ∙ m in cc) in
    true≢false
    (sym ((le_iff (two +ℚ two) two).1 (subst (λ t. two +ℚ two ≤ℚ t) (four_times (repeated two k) ∙ sym (zero-add _) ∙ sym (twice_middle _ _ _ d) ∙ mul_comm one_ℚ two ∙ mul-one two) (four_at_most (repeated two k) (at_least_one k)))) ∙ four_above))
  where
    four_times : (t : ℚ) → (t +ℚ t) +ℚ (t +ℚ t) ≡ two *ℚ (two *ℚ t)
    four_times t = by_ring (t ∷ []) (search quotes depth 20) (search quotes depth 20) refl

    four_at_most : (t : ℚ) → one_ℚ ≤ℚ t → two +ℚ two ≤ℚ (t +ℚ t) +ℚ (t +ℚ t)
    four_at_most t h = add-le-add _ _ _ _ (add-le-add _ _ _ _ h h) (add-le-add _ _ _ _ h h)

zero_at_most : (n : ℕ) → pos 0 ≤ℤ pos n
zero_at_most n = omega (arith, ints)

below_zero : (k : ℕ) → negsuc k <ℤ pos 0
below_zero k = omega (arith, ints)

open_base_bends : (f : AffineForm) (y : ℚ) → IsOpen f → is_exponent y ≡ true → is_zero y ≡ false → eq_ℚ y one_ℚ ≡ false → (n : ℤ) → numerator y ≡ n → Bends (λ x. exact (raised (worth x f) y))
open_base_bends f y h e z o (pos zero) s = absurd (true≢false (sym (zero_is_zero y (whole_exponent y e ∙ ap whole_ℚ s ∙ whole-zero)) ∙ z))
open_base_bends f y h e z o (pos (suc zero)) s = absurd (true≢false (sym ((eq_iff y one_ℚ).1 (whole_exponent y e ∙ ap whole_ℚ s ∙ whole-one)) ∙ o))
open_base_bends f y h e z o (pos (suc (suc k))) s =
    above_bends f y k h e (not_negative y (subst (λ t. zero_ℚ ≤ℚ t) (sym (whole_exponent y e ∙ ap whole_ℚ s)) (subst (λ t. t ≤ℚ whole_ℚ (pos (suc (suc k)))) whole-zero ((whole-le (pos 0) (pos (suc (suc k)))).1 (zero_at_most (suc (suc k))))))) s
open_base_bends f y h e z o (negsuc k) s =
    below_bends f y h e (negative y (subst (λ t. t <ℚ zero_ℚ) (sym (whole_exponent y e ∙ ap whole_ℚ s)) (subst (λ t. whole_ℚ (negsuc k) <ℚ t) whole-zero ((whole-lt (negsuc k) (pos 0)).1 (below_zero k)))))

-- ---- the row
module _ (a b : Abs) where
  known_right : (f g : AffineForm) → IsForm f → (y : ℚ) → constant_of g ≡ Some y → IsTrue (has_terms f) → is_exponent y ≡ true → (c d : Bool) → is_zero y ≡ c → eq_ℚ y one_ℚ ≡ d
      → IsRight (λ x. exact (raised (worth x f) (worth x g))) (a ∷ b ∷ []) (exact (if c then given (Known (Number one_ℚ)) else if d then given (entry f) else breaks))
  known_right f g i y s h e true d z o = λ x. ap (λ w. exact (raised (worth x f) w)) (constant_is g y s x) ∙ raised_by_zero (worth x f) y (zero_test y z)
  known_right f g i y s h e false true z o = λ x. ap (λ w. exact (raised (worth x f) w)) (constant_is g y s x) ∙ raised_by_one (worth x f) y ((eq_iff y one_ℚ).0 o) ∙ sym (entry_at x f i)
  known_right f g i y s h e false false z o =
      subst (λ (value : Assignment → Value). Bends value) (λ k x. exact (raised (worth x f) (sym (constant_is g y s x) k))) (open_base_bends f y (i, h) e z o (numerator y) refl)

  open_first : (f g : AffineForm) (y : ℚ) → constant_of g ≡ Some y → IsTrue (has_terms f) ⊎ IsTrue (has_terms g) → IsTrue (has_terms f)
  open_first f g y s (inl h) = h
  open_first f g y s (inr h) = let t : constant_of g ≡ None = ap (λ b. if b then None else Some g.constant) h in cc

  row : (f g : AffineForm) → IsForm f → IsForm g → IsTrue (has_terms f) ⊎ IsTrue (has_terms g) → (l : Option ℚ) → constant_of g ≡ l → certain_by no_exponent l ≡ None
      → IsRight (λ x. exact (raised (worth x f) (worth x g))) (a ∷ b ∷ []) (exact (raised_to f l))
  row f g i j o (Some y) s n = known_right f g i y s (open_first f g y s o) (an_exponent y n) (is_zero y) (eq_ℚ y one_ℚ) refl refl
  row f g i j o None s n = open_exponent_bends f g (j, open_is g s)

  pub power_is_right : RowIsRight a b raised no_exponent power_row
  power_is_right = record {
    errors = λ p y k e. no_exponent_fault p y k e;
    forms = λ f g i j d e o n. row f g i j o (constant_of g) refl n;
  }
