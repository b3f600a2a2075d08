-- What the objective at a claimed point means of the value that is told.
use Rattle.std.proofs.Common.{◌≡◌, sym, ap, ◌∙◌, Option, Some}
use Rattle.calculations.specs.Calculation.{narrow}
use Rattle.fractions.specs.Rational.{ℚ}
use Rattle.optimality.specs.Problem.{Assignment, Goal}
use Rattle.affine_forms.specs.Forms.{AffineForm}
use Rattle.cell_refs.specs.declared.cell.Cell.{Cell}
use Rattle.linear_models.specs.Worths.{form_at}
use Rattle.linear_models.specs.Model as model
use Rattle.opt_certificate.specs.Certificate.{optimal}
use Rattle.opt_certificate.specs.Sums.{form_sum}
use Rattle.opt_certificate.proofs.Totals.{form_is}
use Rattle.optcheck_cli.specs.Inner.{Compared, ValueJudged, told_of}
use Rattle.optcheck_cli.specs.declared.verdict.Verdict.{Verdict}
use Rattle.optcheck_cli.specs.declared.verdict.Verdict.TheVariants as verdict

-- the value is compared with the one that the objective's number gives
pub judged_by : (m : model.Model) (f : AffineForm) (a : Assignment) (objective : Option Cell) (goal : Goal) (value : Option ℚ) (n : ℚ) (told : Option ℚ) (v : Verdict)
    → f ≡ model.maximised m.goal m.objective → narrow (form_sum f a) ≡ Some n → told ≡ told_of objective goal n → Compared (value ≡ told) v → ValueJudged m objective goal (optimal a) value v
judged_by m f a objective goal value n told v e s t h = cases v h
  where
    right : told ≡ told_of objective goal (form_at (model.maximised m.goal m.objective) a)
    right = t ∙ ap (told_of objective goal) (form_is f a n s ∙ ap (λ (g : AffineForm). form_at g a) e)

    cases : (v : Verdict) → Compared (value ≡ told) v → ValueJudged m objective goal (optimal a) value v
    cases verdict.Yes h = h ∙ right
    cases verdict.No h = λ k. h (k ∙ sym right)
    cases (verdict.Wide node) h = absurd h
    cases (verdict.Refused answer) h = absurd h
