-- Sums, products and quotients of open values.
use Rattle.std.proofs.Common.{◌≡◌, refl, sym, ap, ap₂, ◌∙◌, subst, Bool, true, false, if◌then◌else◌, List, [], ◌∷◌, Option, Some, None}
use Rattle.fractions.specs.Rational.{ℚ, zero_ℚ, one_ℚ, neg_ℚ, ◌*ℚ◌, ◌/ℚ◌, inv_ℚ, eq_ℚ}
use Rattle.fractions.proofs.Laws.{mul_comm}
use Rattle.fractions.proofs.Order.{eq_iff}
use Rattle.calculations.specs.Calculation.{Calculation, exact, sum, product, quotient}
use Rattle.cell_refs.specs.declared.error_kind.ErrorKind.{ErrorKind}
use Rattle.cell_refs.specs.declared.error_kind.ErrorKind.TheVariants as kind
use Rattle.sheet_model.specs.Tests.{is_zero}
use Rattle.sheet_model.specs.Operators.{calculated, divided}
use Rattle.sheet_model.specs.declared.value.Value.{Value}
use Rattle.sheet_model.specs.declared.value.Value.TheVariants.{Number, Error}
use Rattle.affine_forms.specs.Forms.{Assignment, AffineForm, IsForm, worth, sum_at}
use Rattle.affine_forms.specs.Steps.{added, subtracted, scaled}
use Rattle.affine_forms.proofs.Worths.{added_is_form, added_worth, scaled_is_form, scaled_worth, subtracted_worth}
use Rattle.affine_forms.proofs.Directions.{moves, moved, worth_moved, both_move}
use Rattle.form_values.proofs.Opening.{IsOpen}
use Rattle.form_values.specs.Refusals.{Bends, bends, jumps, middle, midpoint}
use Rattle.form_values.specs.Trials.{Trial, Refusal, Breaks, Undecided, given, breaks, undecided, fault, made}
use Rattle.form_values.specs.declared.abs.Abs.{Abs}
use Rattle.form_table.specs.Wanted.{constant_of, certain_by, no_error}
use Rattle.form_values.specs.Entries.{entry}
use Rattle.form_table.specs.Operators.{by_constants, product_row, divided_by, quotient_row, zero_divisor}
use Rattle.form_truth.proofs.Right.{IsRight}
use Rattle.form_truth.proofs.Exact.{exact-made, exact-and_then}
use Rattle.form_truth.proofs.Formed.{subtracted_is_form}
use Rattle.form_truth.proofs.Fitting.{entry_at, constant_is, open_is, at_value, at_value_worth, zero_is_not_one}
use Rattle.form_truth.proofs.Bending.{midpoint_is, product_bends}
use Rattle.form_truth.proofs.Numbers.{RowIsRight}

-- a form that is calculated is right where its value is the function's
pub made_right : (args : List Abs) (value : Assignment → Value) (c : Calculation AffineForm) → IsForm (exact c) → ((x : Assignment) → value x ≡ Number (worth x (exact c))) → IsRight value args (exact (made entry c))
made_right args value c i h =
    subst (IsRight value args) (sym (exact-made entry c)) (λ x. h x ∙ sym (entry_at x (exact c) i))

module _ (a b : Abs) where
  pub sum_row : RowIsRight a b (λ x y. calculated (sum x y)) no_error (λ f g. made entry (added f g))
  sum_row = record {
    errors = λ p y k e. cc;
    forms = λ f g i j d e s n. made_right (a ∷ b ∷ []) _ (added f g) (added_is_form f g i j) (λ x. ap Number (sym (added_worth x f g)));
  }

  pub difference_row : RowIsRight a b (λ x y. calculated (sum x (neg_ℚ y))) no_error (λ f g. made entry (subtracted f g))
  difference_row = record {
    errors = λ p y k e. cc;
    forms = λ f g i j d e s n. made_right (a ∷ b ∷ []) _ (subtracted f g) (subtracted_is_form f g i j) (λ x. ap Number (sym (subtracted_worth x f g)));
  }

-- ---- products
-- of two open forms
pub open_product_bends : (f g : AffineForm) → IsOpen f → IsOpen g → Bends (λ x. Number (worth x f *ℚ worth x g))
open_product_bends f g h k =
    let m = both_move f g (moves f h.0 h.1) (moves g k.0 k.1) in
    let d = m.direction in
    let p : Assignment = (λ j. zero_ℚ) in
    let up = moved p one_ℚ d in
    let down = moved p (neg_ℚ one_ℚ) d in
    bends up down (worth up f *ℚ worth up g) (worth down f *ℚ worth down g) refl refl
    (λ e. product_bends (worth p f) (worth p g) (sum_at d f.terms) (sum_at d g.terms) m.first m.second
    (let s : worth (midpoint up down) f *ℚ worth (midpoint up down) g ≡ middle (worth up f *ℚ worth up g) (worth down f *ℚ worth down g) = cc in
    ap₂ (λ u w. u *ℚ w) (ap (λ z. worth z f) (sym (midpoint_is p d))) (ap (λ z. worth z g) (sym (midpoint_is p d))) ∙ s
    ∙ ap₂ middle (ap₂ ◌*ℚ◌ (worth_moved p one_ℚ d f) (worth_moved p one_ℚ d g)) (ap₂ ◌*ℚ◌ (worth_moved p (neg_ℚ one_ℚ) d f) (worth_moved p (neg_ℚ one_ℚ) d g))))

module _ (a b : Abs) where
  product_right : (f g : AffineForm) → IsForm f → IsForm g → (k l : Option ℚ) → constant_of f ≡ k → constant_of g ≡ l
      → IsRight (λ x. Number (worth x f *ℚ worth x g)) (a ∷ b ∷ []) (exact (Rattle.form_values.specs.Trials.and_then (by_constants f g k l) (λ h. given (entry h))))
  product_right f g i j (Some k) l d e =
      subst (IsRight (λ x. Number (worth x f *ℚ worth x g)) (a ∷ b ∷ []))
      (sym (exact-and_then (by_constants f g (Some k) l) (λ h. given (entry h)) ∙ ap (λ r. exact (Rattle.form_values.specs.Trials.on_given r (λ h. given (entry h)))) (exact-made (λ h. h) (scaled k g))))
      (λ x. ap Number (mul_comm (worth x f) (worth x g) ∙ ap (λ t. worth x g *ℚ t) (constant_is f k d x) ∙ sym (scaled_worth x k g)) ∙ sym (entry_at x (exact (scaled k g)) (scaled_is_form k g j)))
  product_right f g i j None (Some l) d e =
      subst (IsRight (λ x. Number (worth x f *ℚ worth x g)) (a ∷ b ∷ []))
      (sym (exact-and_then (by_constants f g None (Some l)) (λ h. given (entry h)) ∙ ap (λ r. exact (Rattle.form_values.specs.Trials.on_given r (λ h. given (entry h)))) (exact-made (λ h. h) (scaled l f))))
      (λ x. ap Number (ap (λ t. worth x f *ℚ t) (constant_is g l e x) ∙ sym (scaled_worth x l f)) ∙ sym (entry_at x (exact (scaled l f)) (scaled_is_form l f i)))
  product_right f g i j None None d e = open_product_bends f g (i, open_is f d) (j, open_is g e)

  pub times_row : RowIsRight a b (λ x y. calculated (product x y)) no_error product_row
  times_row = record {
    errors = λ p y k e. cc;
    forms = λ f g i j d e s n. product_right f g i j (constant_of f) (constant_of g) refl refl;
  }

-- ---- quotients
-- whether a number is 0, as a test
pub zero_test : (x : ℚ) → is_zero x ≡ true → x ≡ zero_ℚ
unfolding eq_ℚ
zero_test x e = (eq_iff x zero_ℚ).0 e

pub divided_by_zero : (p y : ℚ) → is_zero y ≡ true → exact (divided p y) ≡ Error kind.Div0
divided_by_zero p y e = ap (λ b. exact (if b then Rattle.calculations.specs.Calculation.done (Error kind.Div0) else calculated (quotient p y))) e

pub divided_by_other : (p y : ℚ) → is_zero y ≡ false → exact (divided p y) ≡ Number (p /ℚ y)
divided_by_other p y e = ap (λ b. exact (if b then Rattle.calculations.specs.Calculation.done (Error kind.Div0) else calculated (quotient p y))) e

divided_some : (p y : ℚ) (b : Bool) → is_zero y ≡ b → zero_divisor y ≡ None → exact (divided p y) ≡ Number (p /ℚ y)
divided_some p y true e n = let s : zero_divisor y ≡ Some kind.Div0 = ap (λ b. if b then Some kind.Div0 else None) e in cc
divided_some p y false e n = divided_by_other p y e

divided_zero : (p y : ℚ) (b : Bool) (k : ErrorKind) → is_zero y ≡ b → zero_divisor y ≡ Some k → exact (divided p y) ≡ Error k
divided_zero p y true k e n =
    let s : zero_divisor y ≡ Some kind.Div0 = ap (λ b. if b then Some kind.Div0 else None) e in
    let t : kind.Div0 ≡ k = cc in
    divided_by_zero p y e ∙ ap Error t
divided_zero p y false k e n = let s : zero_divisor y ≡ None = ap (λ b. if b then Some kind.Div0 else None) e in cc

-- the tests of 0 and of 1
pub zero_is_zero : (x : ℚ) → x ≡ zero_ℚ → is_zero x ≡ true
unfolding eq_ℚ
zero_is_zero x e = (eq_iff x zero_ℚ).1 e

pub one_is_not_zero : (x : ℚ) → x ≡ one_ℚ → is_zero x ≡ false
one_is_not_zero x e = by_test (is_zero x) refl
  where
    by_test : (b : Bool) → is_zero x ≡ b → b ≡ false
    by_test true h = absurd (zero_is_not_one (sym (zero_test x h) ∙ e))
    by_test false h = refl

-- an open divisor is 0 at one assignment and 1 at another
pub open_quotient_bends : (f g : AffineForm) → IsOpen g → Bends (λ x. exact (divided (worth x f) (worth x g)))
open_quotient_bends f g h =
    let z = at_value g h zero_ℚ in
    let u = at_value g h one_ℚ in
    let at_zero : exact (divided (worth z f) (worth z g)) ≡ Error kind.Div0 = divided_by_zero (worth z f) (worth z g) (zero_is_zero (worth z g) (at_value_worth g h zero_ℚ)) in
    let at_one : exact (divided (worth u f) (worth u g)) ≡ Number (worth u f /ℚ worth u g) = divided_by_other (worth u f) (worth u g) (one_is_not_zero (worth u g) (at_value_worth g h one_ℚ)) in
    jumps z u (λ e. let s : Error kind.Div0 ≡ Number (worth u f /ℚ worth u g) = sym at_zero ∙ e ∙ at_one in cc) (λ n m. let s : Error kind.Div0 ≡ Number n.0 = sym at_zero ∙ n.1 in cc)

module _ (a b : Abs) where
  quotient_right : (f g : AffineForm) → IsForm f → IsForm g → (l : Option ℚ) → constant_of g ≡ l → certain_by zero_divisor l ≡ None
      → IsRight (λ x. exact (divided (worth x f) (worth x g))) (a ∷ b ∷ []) (exact (divided_by f l))
  quotient_right f g i j (Some y) e n =
      made_right (a ∷ b ∷ []) _ (scaled (inv_ℚ y) f) (scaled_is_form (inv_ℚ y) f i) (λ x. ap (λ t. exact (divided (worth x f) t)) (constant_is g y e x) ∙ divided_some (worth x f) y (is_zero y) refl n ∙ ap Number (sym (scaled_worth x (inv_ℚ y) f)))
  quotient_right f g i j None e n = open_quotient_bends f g (j, open_is g e)

  pub over_row : RowIsRight a b divided zero_divisor quotient_row
  over_row = record {
    errors = λ p y k e. divided_zero p y (is_zero y) k refl e;
    forms = λ f g i j d e s n. quotient_right f g i j (constant_of g) refl n;
  }
