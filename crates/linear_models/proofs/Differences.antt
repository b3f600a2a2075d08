-- The worth of a form with its sign turned, and of a difference.
use Rattle.std.proofs.Common.{◌≡◌}
use Rattle.fractions.specs.Rational.{◌-ℚ◌, neg_ℚ}
use Rattle.optimality.specs.Problem.{Assignment}
use Rattle.affine_forms.specs.FromCalculations.{exact}
use Rattle.affine_forms.specs.Forms.{AffineForm, negated}
use Rattle.affine_forms.specs.Steps.{subtracted}
use Rattle.affine_forms.specs.Assigned.{assigned}
use Rattle.affine_forms.proofs.Worths.{negated_worth, subtracted_worth}
use Rattle.linear_models.specs.Worths.{form_at}

pub form-negated : (f : AffineForm) (a : Assignment) → form_at (negated f) a ≡ neg_ℚ (form_at f a)
form-negated f a = negated_worth (assigned a) f

pub form-difference : (f g : AffineForm) (a : Assignment) → form_at (exact (subtracted f g)) a ≡ form_at f a -ℚ form_at g a
form-difference f g a = subtracted_worth (assigned a) f g
