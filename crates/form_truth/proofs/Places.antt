-- ROUND of open values.
use Rattle.std.specs.Prelude.{◌≢◌, IsTrue, not, ℤ, pos, negsuc, zero, suc}
use Rattle.std.specs.List.{AllByRecursion, list_all}
use Rattle.std.specs.Result.{result_map_both}
use Rattle.std.proofs.Common.{◌≡◌, refl, sym, ap, ap₂, ◌∙◌, subst, Bool, true, false, true≢false, if◌then◌else◌, ◌⊎◌, inl, inr, [], ◌∷◌, ℕ, Option, Some, None, Result, Ok, Err}
use Rattle.fractions.specs.Rational.{ℚ, zero_ℚ, one_ℚ, ◌+ℚ◌, neg_ℚ, ◌*ℚ◌, ◌/ℚ◌, inv_ℚ, le_ℚ, ◌≤ℚ◌, ◌<ℚ◌, computed}
use Rattle.fractions.specs.Floor.{floor_ℚ}
use Rattle.fractions.specs.Whole.{whole_ℚ}
use Rattle.fractions.specs.Power.{power_ℚ, repeated}
use Rattle.fractions.proofs.Laws.{mul_comm, mul_assoc, mul-one}
use Rattle.fractions.proofs.Order.{zero_lt_one, mul_pos, inv_pos, mul_nonneg, le_of_lt, le_refl, ne_of_lt}
use Rattle.fractions.proofs.Tests.{le_iff, lt_iff}
use Rattle.fractions.proofs.Field.{ordered_field}
use Rattle.calculations.specs.Calculation.{exact, done, turned_into}
use Rattle.cell_refs.specs.declared.error_kind.ErrorKind.{ErrorKind}
use Rattle.cell_refs.specs.declared.error_kind.ErrorKind.TheVariants as kind
use Rattle.sheet_model.specs.Conversions.{number_in}
use Rattle.sheet_model.specs.Tests.{is_negative}
use Rattle.sheet_model.specs.declared.value.Value.{Value}
use Rattle.sheet_model.specs.declared.value.Value.TheVariants.{Number, Error}
use Rattle.sheet_model.specs.declared.grid.Arg.{Arg}
use Rattle.sheet_model.specs.declared.grid.Arg.TheVariants as arg
use Rattle.sheet_funcs.specs.Arguments.{answered, counted, on_ok}
use Rattle.sheet_funcs.specs.Rounding as numbers
use Rattle.sheet_funcs.specs.Rounding.{rounded, magnitude, half, is_place, rounded_half_up, rounded_at, round_of}
use Rattle.affine_forms.specs.Forms.{Assignment, AffineForm, IsForm, worth, has_terms}
use Rattle.form_values.specs.Meaning.{abs_at, arg_at, elements_of}
use Rattle.form_values.proofs.Opening.{IsAbs, IsOpen}
use Rattle.form_values.specs.Refusals.{Bends, jumps, middle}
use Rattle.form_values.specs.Trials.{breaks, undecided}
use Rattle.form_values.specs.declared.abs.Abs.{Abs}
use Rattle.form_values.specs.declared.abs.AbsArg.{AbsArg}
use Rattle.form_table.specs.Wanted.{value_of, constant_of, certain_by}
use Rattle.form_values.specs.Known.{all_known}
use Rattle.form_table.specs.Rounding.{no_places, round_row, round_form}
use Rattle.form_truth.proofs.Right.{IsRight, IsRightArg, ArgumentVaries}
use Rattle.form_truth.proofs.Fitting.{constant_is, open_is, at_value, at_value_worth, zero_is_not_one}
use Rattle.form_truth.proofs.Numbers.{RowIsRight}
use Rattle.form_truth.proofs.Calls.{bends_by, same_bends, one_unknown, bent_right, call_right}
use Rattle.form_truth.proofs.Bent.{between_multiples}

-- ---- what is rounded
abbrev ten : ℚ
ten = whole_ℚ (pos 10)

-- half up, in steps of 1/t
abbrev in_steps : ℚ → ℚ → ℚ
in_steps m t = rounded (m *ℚ t +ℚ half) /ℚ t

abbrev signed : Bool → ℚ → ℚ → ℚ
signed b m t = if b then neg_ℚ (in_steps (if b then neg_ℚ m else m) t) else in_steps (if b then neg_ℚ m else m) t

abbrev rounded_number : ℚ → ℤ → ℚ
rounded_number m n = signed (is_negative m) m (power_ℚ ten n)

abbrev rounded_by : Bool → ℚ → ℤ → Value
rounded_by b p n = if b then Number (rounded_number p n) else Error kind.Num

abbrev rounded_value : ℚ → ℤ → Value
rounded_value p n = rounded_by (is_place n) p n

rounded_is : (p : ℚ) (n : ℤ) → exact (rounded_at p n) ≡ arg.One (rounded_value p n)
rounded_is p n = by_test (is_place n)
  where
    by_test : (b : Bool)
        → exact (if b then counted (turned_into (λ r. if is_negative p then neg_ℚ r else r) (rounded_half_up (magnitude p) n)) else answered (Error kind.Num)) ≡ arg.One (rounded_by b p n)
    by_test true = refl
    by_test false = refl

-- ---- powers of 10 are positive
ten_above : le_ℚ ten zero_ℚ ≡ false
unfolding computed
ten_above = refl

ten_positive : zero_ℚ <ℚ ten
ten_positive = (lt_iff zero_ℚ ten).1 (λ h. true≢false (sym ((le_iff ten zero_ℚ).1 h) ∙ ten_above))

repeated_positive : (k : ℕ) → zero_ℚ <ℚ repeated ten k
repeated_positive zero = zero_lt_one
repeated_positive (suc k) = mul_pos ten (repeated ten k) ten_positive (repeated_positive k)

power_positive : (n : ℤ) → zero_ℚ <ℚ power_ℚ ten n
unfolding power_ℚ
power_positive (pos k) = repeated_positive k
power_positive (negsuc k) = inv_pos (repeated ten (suc k)) (repeated_positive (suc k))

-- ---- a step, none, and half of one
none_rounded : rounded (zero_ℚ +ℚ half) ≡ zero_ℚ
unfolding computed floor_ℚ
none_rounded = refl

step_rounded : rounded (one_ℚ +ℚ half) ≡ one_ℚ
unfolding computed floor_ℚ
step_rounded = refl

half_rounded : rounded (middle zero_ℚ one_ℚ +ℚ half) ≡ one_ℚ
unfolding computed floor_ℚ
half_rounded = refl

half_at_least : le_ℚ zero_ℚ (middle zero_ℚ one_ℚ) ≡ true
unfolding computed
half_at_least = refl

half_below : le_ℚ one_ℚ (middle zero_ℚ one_ℚ) ≡ false
unfolding computed
half_below = refl

half_is_not_one : one_ℚ ≢ middle zero_ℚ one_ℚ
half_is_not_one e = true≢false (sym ((le_iff one_ℚ one_ℚ).1 (le_refl one_ℚ)) ∙ ap (le_ℚ one_ℚ) e ∙ half_below)

module _ (t : ℚ) (h : zero_ℚ <ℚ t) where
  some : t ≢ zero_ℚ
  some e = ne_of_lt zero_ℚ t h (sym e)

  times_over : (q : ℚ) → (inv_ℚ t *ℚ q) *ℚ t ≡ q
  times_over q = ap (λ s. s *ℚ t) (mul_comm (inv_ℚ t) q) ∙ mul_assoc q (inv_ℚ t) t ∙ ap (λ s. q *ℚ s) (mul_comm (inv_ℚ t) t ∙ ordered_field.mul-inv t some) ∙ mul-one q

  cancelled : (p q : ℚ) → inv_ℚ t *ℚ p ≡ inv_ℚ t *ℚ q → p ≡ q
  cancelled p q e = sym (times_over p) ∙ ap (λ s. s *ℚ t) e ∙ times_over q

  inverse_some : inv_ℚ t ≢ zero_ℚ
  inverse_some e = ne_of_lt zero_ℚ (inv_ℚ t) (inv_pos t h) (sym e)

  steps_are : (q r : ℚ) → zero_ℚ ≤ℚ q → rounded (q +ℚ half) ≡ r → signed (is_negative (inv_ℚ t *ℚ q)) (inv_ℚ t *ℚ q) t ≡ inv_ℚ t *ℚ r
  steps_are q r l e =
      ap (λ b. signed b (inv_ℚ t *ℚ q) t) (ap not ((le_iff zero_ℚ (inv_ℚ t *ℚ q)).1 (mul_nonneg (inv_ℚ t) q (le_of_lt _ _ (inv_pos t h)) l)))
      ∙ ap (λ s. rounded (s +ℚ half) /ℚ t) (times_over q) ∙ ap (λ s. s /ℚ t) e ∙ mul_comm r (inv_ℚ t)

  steps_bend : (f : AffineForm) → IsOpen f → Bends (λ x. Number (signed (is_negative (worth x f)) (worth x f) t))
  steps_bend =
      bends_by (λ p. signed (is_negative p) p t) (inv_ℚ t *ℚ zero_ℚ) (inv_ℚ t *ℚ one_ℚ)
      (λ e.
      half_is_not_one
      (cancelled one_ℚ (middle zero_ℚ one_ℚ)
      (sym
      (ap (λ p. signed (is_negative p) p t) (between_multiples (inv_ℚ t) inverse_some) ∙ steps_are (middle zero_ℚ one_ℚ) one_ℚ ((le_iff _ _).0 half_at_least) half_rounded)
      ∙ e ∙ ap₂ middle (steps_are zero_ℚ zero_ℚ (le_refl zero_ℚ) none_rounded) (steps_are one_ℚ one_ℚ (le_of_lt _ _ zero_lt_one) step_rounded)
      ∙ between_multiples (inv_ℚ t) inverse_some)))

place_bends : (n : ℤ) → is_place n ≡ true → (f : AffineForm) → IsOpen f → Bends (λ x. rounded_value (worth x f) n)
place_bends n e f h = same_bends _ (λ x. Number (rounded_number (worth x f) n)) (λ x. ap (λ b. rounded_by b (worth x f) n) (sym e)) (steps_bend (power_ℚ ten n) (power_positive n) f h)

-- ---- to a whole number
pub round_right : (a : AbsArg) → AllByRecursion IsAbs (elements_of a) → list_all all_known (a ∷ []) ≡ false → IsRightArg (λ x. exact (round_of (arg_at x a ∷ []))) (a ∷ []) (exact (round_form (a ∷ [])))
round_right a h n = bent_right (λ p. rounded_value p (pos 0)) (place_bends (pos 0) refl) a h (one_unknown a n) (λ p. rounded_at p (pos 0)) (λ p. rounded_is p (pos 0))

-- ---- at a place
place_fault : (p y : ℚ) (k : ErrorKind) → no_places y ≡ Some k → rounded_value p (floor_ℚ y) ≡ Error k
place_fault p y k e = by_test (is_place (floor_ℚ y)) e
  where
    by_test : (b : Bool) → (if b then None else Some kind.Num) ≡ Some k → rounded_by b p (floor_ℚ y) ≡ Error k
    by_test true e = cc
    by_test false e = let s : kind.Num ≡ k = cc in ap Error s

a_place : (y : ℚ) → no_places y ≡ None → is_place (floor_ℚ y) ≡ true
a_place y e = by_test (is_place (floor_ℚ y)) e
  where
    by_test : (b : Bool) → (if b then None else Some kind.Num) ≡ None → b ≡ true
    by_test true e = refl
    by_test false e = cc

no_place : is_place (floor_ℚ (whole_ℚ (pos 2000))) ≡ false
unfolding computed floor_ℚ
no_place = refl

zero_place : is_place (floor_ℚ zero_ℚ) ≡ true
unfolding computed floor_ℚ
zero_place = refl

-- an open place is 0 at one assignment and 2000 at another
open_place_bends : (f g : AffineForm) → IsOpen g → Bends (λ x. rounded_value (worth x f) (floor_ℚ (worth x g)))
open_place_bends f g h =
    let z = at_value g h zero_ℚ in
    let u = at_value g h (whole_ℚ (pos 2000)) in
    let at_zero : rounded_value (worth z f) (floor_ℚ (worth z g)) ≡ Number (rounded_number (worth z f) (floor_ℚ (worth z g))) = ap (λ b. rounded_by b (worth z f) (floor_ℚ (worth z g))) (ap (λ w. is_place (floor_ℚ w)) (at_value_worth g h zero_ℚ) ∙ zero_place) in
    let at_other : rounded_value (worth u f) (floor_ℚ (worth u g)) ≡ Error kind.Num = ap (λ b. rounded_by b (worth u f) (floor_ℚ (worth u g))) (ap (λ w. is_place (floor_ℚ w)) (at_value_worth g h (whole_ℚ (pos 2000))) ∙ no_place) in
    jumps z u (λ e. let s : Number (rounded_number (worth z f) (floor_ℚ (worth z g))) ≡ Error kind.Num = sym at_zero ∙ e ∙ at_other in cc) (λ n m. let s : Error kind.Num ≡ Number m.0 = sym at_other ∙ m.1 in cc)

module _ (a b : Abs) where
  number_bends : (f g : AffineForm) → IsOpen f → IsForm g → (l : Option ℚ) → constant_of g ≡ l → certain_by no_places l ≡ None → Bends (λ x. rounded_value (worth x f) (floor_ℚ (worth x g)))
  number_bends f g h j None e n = open_place_bends f g (j, open_is g e)
  number_bends f g h j (Some y) e n =
      same_bends _ (λ x. rounded_value (worth x f) (floor_ℚ y)) (λ x. ap (λ w. rounded_value (worth x f) (floor_ℚ w)) (sym (constant_is g y e x))) (place_bends (floor_ℚ y) (a_place y n) f h)

  second_varies : (g : AffineForm) → IsOpen g → ((x : Assignment) → number_in (abs_at x b) ≡ Ok (worth x g)) → ArgumentVaries abs_at (a ∷ b ∷ []) 1
  second_varies g h e =
      record {
        argument = b;
        is_there = refl;
        varies = record {
          one = at_value g h zero_ℚ;
          other = at_value g h one_ℚ;
          differ = λ s.
              let d : Ok (worth (at_value g h zero_ℚ) g) ≡ Ok (worth (at_value g h one_ℚ) g) = sym (e (at_value g h zero_ℚ)) ∙ ap number_in s ∙ e (at_value g h one_ℚ) in
              let w : worth (at_value g h zero_ℚ) g ≡ worth (at_value g h one_ℚ) g = cc in
              zero_is_not_one (sym (at_value_worth g h zero_ℚ) ∙ w ∙ at_value_worth g h one_ℚ);
        };
      }

  second_open : (f g : AffineForm) → IsTrue (has_terms f) ⊎ IsTrue (has_terms g) → has_terms f ≡ false → IsTrue (has_terms g)
  second_open f g (inl h) e = absurd (true≢false (sym h ∙ e))
  second_open f g (inr h) e = h

  row_right : (f g : AffineForm) → IsForm f → IsForm g → ((x : Assignment) → number_in (abs_at x b) ≡ Ok (worth x g)) → IsTrue (has_terms f) ⊎ IsTrue (has_terms g) → certain_by no_places (constant_of g) ≡ None
      → (c : Bool) → has_terms f ≡ c → IsRight (λ x. rounded_value (worth x f) (floor_ℚ (worth x g))) (a ∷ b ∷ []) (exact (if c then breaks else undecided 1))
  row_right f g i j e o n true s = number_bends f g (i, s) j (constant_of g) refl n
  row_right f g i j e o n false s = second_varies g (j, second_open f g o s) e

  round_at_row : RowIsRight a b (λ p y. done (rounded_value p (floor_ℚ y))) no_places round_row
  round_at_row = record {
    errors = place_fault;
    forms = λ f g i j d e o n. row_right f g i j e o n (has_terms f) refl;
  }

places_are : (r s : Result ℚ ErrorKind) → exact (on_ok r (λ p. on_ok s (λ y. rounded_at p (floor_ℚ y)))) ≡ exact (on_ok r (λ p. on_ok (result_map_both floor_ℚ (λ k. k) s) (rounded_at p)))
places_are (Err k) s = refl
places_are (Ok p) (Err k) = refl
places_are (Ok p) (Ok y) = refl

pub round_at_right : (a b : AbsArg) → AllByRecursion IsAbs (elements_of a) → AllByRecursion IsAbs (elements_of b) → list_all all_known (a ∷ b ∷ []) ≡ false
    → IsRightArg (λ x. exact (round_of (arg_at x a ∷ arg_at x b ∷ []))) (a ∷ b ∷ []) (exact (round_form (a ∷ b ∷ [])))
round_at_right a b h k n =
    subst (λ (value : Assignment → Arg). IsRightArg value (a ∷ b ∷ []) (exact (round_form (a ∷ b ∷ [])))) (λ i x. places_are (numbers.number_of (arg_at x a)) (numbers.number_of (arg_at x b)) i)
    (call_right (λ p y. done (rounded_value p (floor_ℚ y))) no_places round_row (λ p y. rounded_at p (floor_ℚ y)) (λ p y. rounded_is p (floor_ℚ y)) a b h k n (round_at_row (value_of a) (value_of b)))
