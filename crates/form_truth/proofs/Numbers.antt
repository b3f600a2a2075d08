-- Rows on one and on two numbers.
use Rattle.std.specs.Prelude.{IsTrue}
use Rattle.std.proofs.Common.{◌≡◌, refl, sym, ap, ◌∙◌, subst, ◌⊎◌, inl, inr, List, [], ◌∷◌, Option, Some, None, Result, Ok, Err}
use Rattle.fractions.specs.Rational.{ℚ}
use Rattle.calculations.specs.Calculation.{Calculation, exact}
use Rattle.cell_refs.specs.declared.error_kind.ErrorKind.{ErrorKind}
use Rattle.sheet_model.specs.Conversions.{number_in}
use Rattle.sheet_model.specs.Operators.{on_numbers}
use Rattle.sheet_model.specs.declared.value.Value.{Value}
use Rattle.sheet_model.specs.declared.value.Value.TheVariants.{Error}
use Rattle.affine_forms.specs.Forms.{Assignment, AffineForm, IsForm, worth, has_terms}
use Rattle.form_values.specs.Meaning.{abs_at}
use Rattle.form_values.specs.Refusals.{Varies}
use Rattle.form_values.specs.Trials.{Trial, Refusal, undecided}
use Rattle.form_values.specs.declared.abs.Abs.{Abs}
use Rattle.form_values.specs.declared.abs.Abs.TheVariants.{Known}
use Rattle.form_table.specs.Wanted.{Wanted, form, open_test, none, constant_of, certain_by, unless, on_forms}
use Rattle.form_truth.proofs.Right.{IsRight}
use Rattle.form_truth.proofs.Fitting.{Fits, is_none, is_form, is_open, constant_is}

-- a function that is the same at each assignment has the same outcome
pub same_right : (f g : Assignment → Value) (args : List Abs) (r : Result Abs Refusal) → ((x : Assignment) → g x ≡ f x) → IsRight g args r → IsRight f args r
same_right f g args r e h = subst (λ (v : Assignment → Value). IsRight v args r) (λ i x. e x i) h

module _ (a b : Abs) (value : ℚ → ℚ → Calculation Value) (certain : ℚ → Option ErrorKind) (row : AffineForm → AffineForm → Trial Abs) where
  -- the value at an assignment
  abbrev at : Assignment → Value
  at x = exact (on_numbers value (number_in (abs_at x a)) (number_in (abs_at x b)))

  -- what is certain is the error whatever the first number is, and else the row is right of forms
  pub record RowIsRight : Type 0 where
    pub errors : (p y : ℚ) (k : ErrorKind) → certain y ≡ Some k → exact (value p y) ≡ Error k
    pub forms : (f g : AffineForm) → IsForm f → IsForm g → ((x : Assignment) → number_in (abs_at x a) ≡ Ok (worth x f)) → ((x : Assignment) → number_in (abs_at x b) ≡ Ok (worth x g))
        → IsTrue (has_terms f) ⊎ IsTrue (has_terms g) → certain_by certain (constant_of g) ≡ None → IsRight (λ x. exact (value (worth x f) (worth x g))) (a ∷ b ∷ []) (exact (row f g))

  on_none : (k : ErrorKind) (x : Assignment) (r : Result ℚ ErrorKind) → number_in (abs_at x a) ≡ Err k → exact (on_numbers value (number_in (abs_at x a)) r) ≡ Error k
  on_none k x r e = ap (λ l. exact (on_numbers value l r)) e

  on_second : (k : ErrorKind) (x : Assignment) (q : ℚ) → number_in (abs_at x a) ≡ Ok q → number_in (abs_at x b) ≡ Err k → at x ≡ Error k
  on_second k x q d e = ap (λ l. exact (on_numbers value l (number_in (abs_at x b)))) d ∙ ap (λ r. exact (on_numbers value (Ok q) r)) e

  on_numbers_at : (x : Assignment) (p q : ℚ) → number_in (abs_at x a) ≡ Ok p → number_in (abs_at x b) ≡ Ok q → at x ≡ exact (value p q)
  on_numbers_at x p q d e = ap (λ l. exact (on_numbers value l (number_in (abs_at x b)))) d ∙ ap (λ r. exact (on_numbers value (Ok p) r)) e

  -- the second number is known, with a certain error
  certain_right : (first : (x : Assignment) → (p : ℚ) × (number_in (abs_at x a) ≡ Ok p)) (g : AffineForm) → ((x : Assignment) → number_in (abs_at x b) ≡ Ok (worth x g)) → RowIsRight
      → (c : Option ℚ) → constant_of g ≡ c → (k : ErrorKind) → certain_by certain c ≡ Some k → (x : Assignment) → at x ≡ Error k
  certain_right first g second h None e k s x = cc
  certain_right first g second h (Some y) e k s x =
      on_numbers_at x (first x).0 y (first x).1 (second x ∙ ap Ok (constant_is g y e x)) ∙ h.errors (first x).0 y k s

  second_open : (c : Option ErrorKind) → certain_by certain None ≡ c → Varies (λ x. abs_at x b) → IsRight at (a ∷ b ∷ []) (exact (unless c (undecided 1)))
  second_open None e v = record { argument = b; is_there = refl; varies = v }
  second_open (Some k) e v = cc

  first_open : (c : Option ErrorKind) → ((k : ErrorKind) → c ≡ Some k → (x : Assignment) → at x ≡ Error k) → Varies (λ x. abs_at x a) → IsRight at (a ∷ b ∷ []) (exact (unless c (undecided 0)))
  first_open None e v = record { argument = a; is_there = refl; varies = v }
  first_open (Some k) e v = e k refl

  both_forms : (f g : AffineForm) → ((x : Assignment) → number_in (abs_at x a) ≡ Ok (worth x f)) → ((x : Assignment) → number_in (abs_at x b) ≡ Ok (worth x g)) → (c : Option ErrorKind)
      → ((k : ErrorKind) → c ≡ Some k → (x : Assignment) → at x ≡ Error k) → (c ≡ None → IsRight (λ x. exact (value (worth x f) (worth x g))) (a ∷ b ∷ []) (exact (row f g)))
      → IsRight at (a ∷ b ∷ []) (exact (unless c (row f g)))
  both_forms f g d e None s h = same_right at (λ x. exact (value (worth x f) (worth x g))) (a ∷ b ∷ []) (exact (row f g)) (λ x. sym (on_numbers_at x (worth x f) (worth x g) (d x) (e x))) (h refl)
  both_forms f g d e (Some k) s h = s k refl

  none_certain : certain_by certain None ≡ None
  none_certain = refl

  one_open : ((v w : Value) → a ≡ Known v → b ≡ Known w → ⊥) → (f g : AffineForm) → ((v : Value) × (a ≡ Known v)) ⊎ IsTrue (has_terms f) → ((w : Value) × (b ≡ Known w)) ⊎ IsTrue (has_terms g)
      → IsTrue (has_terms f) ⊎ IsTrue (has_terms g)
  one_open n f g (inl v) (inl w) = absurd (n v.0 w.0 v.1 w.1)
  one_open n f g (inr h) k = inl h
  one_open n f g (inl v) (inr k) = inr k

  -- where not both are known
  pub on_forms_right : ((v w : Value) → a ≡ Known v → b ≡ Known w → ⊥) → RowIsRight → (w v : Wanted) → Fits a w → Fits b v → IsRight at (a ∷ b ∷ []) (exact (on_forms certain row w v))
  on_forms_right n h (none k) v (is_none l d) s = λ x. on_none l x (number_in (abs_at x b)) (d x)
  on_forms_right n h (form f) (none k) (is_form f' i u d) (is_none l e) = λ x. on_second l x (worth x f') (d x) (e x)
  on_forms_right n h open_test (none k) (is_open d v) (is_none l e) = λ x. on_second l x (d x).0 (d x).1 (e x)
  on_forms_right n h (form f) (form g) (is_form f' i u d) (is_form g' j w e) =
      both_forms f' g' d e (certain_by certain (constant_of g')) (λ k s. certain_right (λ x. (worth x f', d x)) g' e h (constant_of g') refl k s) (λ c. h.forms f' g' i j d e (one_open n f' g' u w) c)
  on_forms_right n h (form f) open_test (is_form f' i u d) (is_open e v) = second_open (certain_by certain None) refl v
  on_forms_right n h open_test (form g) (is_open d u) (is_form g' j w e) = first_open (certain_by certain (constant_of g')) (λ k s. certain_right d g' e h (constant_of g') refl k s) u
  on_forms_right n h open_test open_test (is_open d u) (is_open e v) = first_open None (λ k s. cc) u
