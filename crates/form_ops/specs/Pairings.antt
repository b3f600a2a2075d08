-- What is made of one number and of two, and the error that a known second number makes certain.
use Rattle.std.specs.Prelude.{pos, Option, ⊤}
use Rattle.fractions.specs.Rational.{ℚ, inv_ℚ}
use Rattle.fractions.specs.Whole.{whole_ℚ}
use Rattle.cell_refs.specs.declared.error_kind.ErrorKind.{ErrorKind}
use Rattle.affine_forms.specs.Forms.{AffineForm, negated}
use Rattle.affine_forms.specs.Steps.{added, subtracted}
use Rattle.form_values.specs.Entries.{entry}
use Rattle.form_values.specs.Trials.{Trial, given, breaks, made}
use Rattle.form_values.specs.declared.abs.Abs.{Abs}
use Rattle.form_table.specs.Wanted.{no_error}
use Rattle.form_table.specs.Operators.{product_row, quotient_row, power_row, zero_divisor, no_exponent, multiplied}
use Rattle.form_table.specs.Rounding.{no_places, round_row}
use Rattle.form_ops.specs.declared.forms.Change.{Change}
use Rattle.form_ops.specs.declared.forms.Change.TheVariants as change
use Rattle.form_ops.specs.declared.pairing.Pairing.{Pairing}
use Rattle.form_ops.specs.declared.pairing.Pairing.TheVariants as pairing

-- of one number
abbrev pub change_row : Change → AffineForm → Trial Abs
change_row change.Minus = λ f. given (entry (negated f))
change_row change.Percent = multiplied (inv_ℚ (whole_ℚ (pos 100)))
change_row change.Bend = λ f. breaks

-- of two numbers
abbrev pub pairing_row : Pairing → AffineForm → AffineForm → Trial Abs
pairing_row pairing.Sum = λ f g. made entry (added f g)
pairing_row pairing.Difference = λ f g. made entry (subtracted f g)
pairing_row pairing.Product = product_row
pairing_row pairing.Quotient = quotient_row
pairing_row pairing.Power = power_row
pairing_row pairing.Remainder = λ f g. breaks
pairing_row pairing.Rounding = round_row

-- the error that a second number makes certain
abbrev pub certain_error : Pairing → ℚ → Option ErrorKind
certain_error pairing.Quotient = zero_divisor
certain_error pairing.Power = no_exponent
certain_error pairing.Remainder = zero_divisor
certain_error pairing.Rounding = no_places
certain_error _ = no_error

-- of an open number nothing affine is made
abbrev pub NeverAffine : Pairing → Type 0
NeverAffine pairing.Remainder = ⊤
NeverAffine pairing.Rounding = ⊤
NeverAffine _ = ⊥
