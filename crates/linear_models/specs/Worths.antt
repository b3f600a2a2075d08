-- What an affine form is worth under an assignment of a problem.
use Rattle.std.specs.Prelude.{Some}
use Rattle.fractions.specs.Rational.{ℚ}
use Rattle.optimality.specs.Problem.{Assignment, Worth}
use Rattle.affine_forms.specs.Forms.{AffineForm, worth}
use Rattle.affine_forms.specs.Assigned.{assigned}

-- the form's number under a list with a number for each decision
abbrev pub form_at : AffineForm → Assignment → ℚ
form_at f a = worth (assigned a) f

-- as what a formula is worth: always a number
abbrev pub worth_of : AffineForm → Worth
worth_of f a = Some (form_at f a)
