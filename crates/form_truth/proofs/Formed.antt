-- What calculations with forms give is a form.
use Rattle.std.specs.Prelude.{◌∷◌}
use Rattle.std.specs.List.{AllByRecursion}
use Rattle.std.proofs.Common.{sym, subst, List, []}
use Rattle.fractions.specs.Rational.{zero_ℚ, inv_ℚ}
use Rattle.calculations.specs.Calculation.{exact, through, followed_by}
use Rattle.sheet_funcs.specs.Sums.{how_many}
use Rattle.affine_forms.specs.Forms.{AffineForm, IsForm, constant_form, negated}
use Rattle.affine_forms.specs.Steps.{added, subtracted, scaled, total}
use Rattle.affine_forms.proofs.Exact.{exact-followed_by}
use Rattle.affine_forms.proofs.Worths.{added_is_form, negated_is_form, scaled_is_form}

pub subtracted_is_form : (f g : AffineForm) → IsForm f → IsForm g → IsForm (exact (subtracted f g))
subtracted_is_form f g i j = added_is_form f (negated g) i (negated_is_form g j)

-- ---- the sum has a form
through_forms : (fs : List AffineForm) (so_far : AffineForm) → AllByRecursion IsForm fs → IsForm so_far → IsForm (exact (through added so_far fs))
through_forms [] so_far h k = k
through_forms (f ∷ fs) so_far h k =
    subst IsForm (sym (exact-followed_by (added so_far f) (λ next. through added next fs))) (through_forms fs (exact (added so_far f)) h.1 (added_is_form so_far f k h.0))

pub total_is_form : (fs : List AffineForm) → AllByRecursion IsForm fs → IsForm (exact (total fs))
total_is_form fs h = through_forms fs (constant_form zero_ℚ) h record { rise = tt }

pub mean_is_form : (f : AffineForm) (fs : List AffineForm) → AllByRecursion IsForm (f ∷ fs) → IsForm (exact (followed_by (total (f ∷ fs)) (scaled (inv_ℚ (how_many (f ∷ fs))))))
mean_is_form f fs i =
    subst IsForm (sym (exact-followed_by (total (f ∷ fs)) (scaled (inv_ℚ (how_many (f ∷ fs)))))) (scaled_is_form (inv_ℚ (how_many (f ∷ fs))) (exact (total (f ∷ fs))) (total_is_form (f ∷ fs) i))
