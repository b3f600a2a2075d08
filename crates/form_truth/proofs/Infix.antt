-- Operators on open values.
use Rattle.std.proofs.Common.{◌≡◌, refl, sym, subst, [], ◌∷◌}
use Rattle.fractions.specs.Rational.{neg_ℚ}
use Rattle.calculations.specs.Calculation.{exact, sum, product}
use Rattle.cell_refs.specs.declared.op.Op.{Op}
use Rattle.cell_refs.specs.declared.op.Op.TheVariants as op
use Rattle.sheet_model.specs.Operators.{infix_value, calculated, divided, raised}
use Rattle.sheet_model.specs.declared.value.Value.{Value}
use Rattle.affine_forms.specs.Steps.{added, subtracted}
use Rattle.form_values.specs.Meaning.{abs_at}
use Rattle.form_values.proofs.Opening.{IsAbs}
use Rattle.form_values.specs.Trials.{made}
use Rattle.form_values.specs.declared.abs.Abs.{Abs}
use Rattle.form_values.specs.declared.abs.Abs.TheVariants.{Known, Affine, Test}
use Rattle.form_table.specs.Wanted.{wanted, no_error}
use Rattle.form_values.specs.Entries.{entry}
use Rattle.form_table.specs.Operators.{infix_abs, infix_row, product_row, quotient_row, power_row, zero_divisor, no_exponent}
use Rattle.form_truth.proofs.Right.{IsRight}
use Rattle.form_truth.proofs.Exact.{exact-made}
use Rattle.form_truth.proofs.Fitting.{fits}
use Rattle.form_truth.proofs.Numbers.{RowIsRight, on_forms_right}
use Rattle.form_truth.proofs.Arithmetic.{sum_row, difference_row, times_row, over_row}
use Rattle.form_truth.proofs.Comparing.{compared_right, joined_right}

-- the row of powers
abbrev pub PowerIsRight : Type 0
PowerIsRight = (a b : Abs) → RowIsRight a b raised no_exponent power_row

module _ (powers : PowerIsRight) where
  row_right : (o : Op) (a b : Abs) → IsAbs a → IsAbs b → ((v w : Value) → a ≡ Known v → b ≡ Known w → ⊥)
      → IsRight (λ x. exact (infix_value o (abs_at x a) (abs_at x b))) (a ∷ b ∷ []) (exact (infix_row o a b))
  row_right op.Add a b h k n = on_forms_right a b (λ x y. calculated (sum x y)) no_error (λ f g. made entry (added f g)) n (sum_row a b) (wanted a) (wanted b) (fits a h) (fits b k)
  row_right op.Sub a b h k n = on_forms_right a b (λ x y. calculated (sum x (neg_ℚ y))) no_error (λ f g. made entry (subtracted f g)) n (difference_row a b) (wanted a) (wanted b) (fits a h) (fits b k)
  row_right op.Mul a b h k n = on_forms_right a b (λ x y. calculated (product x y)) no_error product_row n (times_row a b) (wanted a) (wanted b) (fits a h) (fits b k)
  row_right op.Div a b h k n = on_forms_right a b divided zero_divisor quotient_row n (over_row a b) (wanted a) (wanted b) (fits a h) (fits b k)
  row_right op.Pow a b h k n = on_forms_right a b raised no_exponent power_row n (powers a b) (wanted a) (wanted b) (fits a h) (fits b k)
  row_right op.Cat a b h k n = joined_right a b h k n
  row_right op.Eq a b h k n = compared_right op.Eq refl a b h k n
  row_right op.Ne a b h k n = compared_right op.Ne refl a b h k n
  row_right op.Lt a b h k n = compared_right op.Lt refl a b h k n
  row_right op.Le a b h k n = compared_right op.Le refl a b h k n
  row_right op.Gt a b h k n = compared_right op.Gt refl a b h k n
  row_right op.Ge a b h k n = compared_right op.Ge refl a b h k n

  -- an operator on two values
  pub infix_right : (o : Op) (a b : Abs) → IsAbs a → IsAbs b → IsRight (λ x. exact (infix_value o (abs_at x a) (abs_at x b))) (a ∷ b ∷ []) (exact (infix_abs o a b))
  infix_right o (Known v) (Known w) h k =
      subst (IsRight (λ x. exact (infix_value o v w)) (Known v ∷ Known w ∷ [])) (sym (exact-made Known (infix_value o v w))) (λ x. refl)
  infix_right o (Known v) (Affine g) h k = row_right o (Known v) (Affine g) h k (λ v w e d. cc)
  infix_right o (Known v) (Test g s) h k = row_right o (Known v) (Test g s) h k (λ v w e d. cc)
  infix_right o (Affine f) b h k = row_right o (Affine f) b h k (λ v w e d. cc)
  infix_right o (Test f r) b h k = row_right o (Test f r) b h k (λ v w e d. cc)
