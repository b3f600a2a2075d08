-- What an operation on narrow numbers answers.
use Rattle.std.specs.Prelude.{◌≡◌, ◌<◌, Result, Ok, Err, Some, None, length}
use Rattle.calculations.specs.Calculation.{Calculation, narrow}
use Rattle.frac128.specs.declared.fault.Wide.{Wide}
use Rattle.affine_forms.specs.Forms.{AffineForm}
use Rattle.affine_forms.specs.declared.stop.FormStop.{FormStop}
use Rattle.affine_forms.specs.declared.stop.FormStop.TheVariants as stop

-- the calculation's answer on narrow numbers, and Wide exactly where it meets a number that isn't narrow
abbrev pub Answers : {A : Type 0} → Calculation A → Result A FormStop → Type 0
Answers c (Ok answer) = narrow c ≡ Some answer
Answers c (Err stop.Wide) = narrow c ≡ None
Answers c (Err stop.Memory) = Unit {0}

-- the same where no memory is wanted
abbrev pub AnswersInPlace : {A : Type 0} → Calculation A → Result A Wide → Type 0
AnswersInPlace c (Ok answer) = narrow c ≡ Some answer
AnswersInPlace c (Err _) = narrow c ≡ None

-- where the calculation has an answer, that has more terms than stand in place: two
abbrev pub NeedsRoom : Calculation AffineForm → Type 0
NeedsRoom c = (f : AffineForm) → narrow c ≡ Some f → 2 < length f.terms
