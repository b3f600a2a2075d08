-- What stands where a number is wanted.
use Rattle.affine_forms.specs.Forms.{AffineForm, constant_form}
use Rattle.form_table.specs.Wanted.{Wanted, form, open_test, none}
use Rattle.form_ops.specs.declared.operand.Held.{Held}
use Rattle.form_ops.specs.declared.operand.Held.TheVariants as held
use Rattle.form_ops.specs.declared.operand.Number.{Number}
use Rattle.form_ops.specs.declared.operand.Number.TheVariants as number
use Rattle.form_ops.specs.declared.operand.Operand.{Operand}
use Rattle.form_ops.specs.declared.operand.Operand.TheVariants as operand

-- the form that a number is
abbrev pub form_in : Number → AffineForm
form_in (number.Known n) = constant_form n
form_in (number.Open f) = f.now

-- the form that is held
abbrev pub form_held : Held → AffineForm
form_held (held.Made f) = f
form_held (held.Lent f) = f.now

-- what an operand stands for
abbrev pub wanted_in : Operand → Wanted
wanted_in (operand.Known n) = form (constant_form n)
wanted_in (operand.Open f) = form f.now
wanted_in operand.Test = open_test
wanted_in (operand.Fault k) = none k
