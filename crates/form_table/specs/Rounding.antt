-- ABS, INT, MOD, ROUND and POWER (OpenDocument 1.2 part 2, sections 6.16.2, 6.17.2, 6.16.42, 6.17.5 and 6.16.46) on open values.
use Rattle.std.specs.Prelude.{if◌then◌else◌, List, [], ◌∷◌, Option, Some, None}
use Rattle.fractions.specs.Rational.{ℚ}
use Rattle.fractions.specs.Floor.{floor_ℚ}
use Rattle.cell_refs.specs.declared.error_kind.ErrorKind.{ErrorKind}
use Rattle.cell_refs.specs.declared.error_kind.ErrorKind.TheVariants as kind
use Rattle.sheet_funcs.specs.Rounding.{is_place}
use Rattle.affine_forms.specs.Forms.{AffineForm, has_terms}
use Rattle.form_values.specs.Trials.{Trial, breaks, undecided, fault, one}
use Rattle.form_values.specs.declared.abs.Abs.{Abs}
use Rattle.form_values.specs.declared.abs.AbsArg.{AbsArg}
use Rattle.form_table.specs.Wanted.{number_of, on_form, on_forms}
use Rattle.form_table.specs.Operators.{zero_divisor, no_exponent, power_row}

-- ABS and INT
abbrev pub bent_form : AbsArg → Trial AbsArg
bent_form a = one (on_form (λ f. breaks) (number_of a))

abbrev pub mod_form : AbsArg → AbsArg → Trial AbsArg
mod_form a b = one (on_forms zero_divisor (λ f g. breaks) (number_of a) (number_of b))

-- a number of places that is out of range
abbrev pub no_places : ℚ → Option ErrorKind
no_places n = if is_place (floor_ℚ n) then None else Some kind.Num

-- the number breaks; where that is known, the number of places is open and decides
abbrev pub round_row : AffineForm → AffineForm → Trial Abs
round_row f n = if has_terms f then breaks else undecided 1

abbrev pub round_form : List AbsArg → Trial AbsArg
round_form (a ∷ []) = bent_form a
round_form (a ∷ b ∷ []) = one (on_forms no_places round_row (number_of a) (number_of b))
round_form _ = one (fault kind.Value)

abbrev pub power_form : AbsArg → AbsArg → Trial AbsArg
power_form a b = one (on_forms no_exponent power_row (number_of a) (number_of b))
