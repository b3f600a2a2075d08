-- Forms and tests of forms as values: where there is no term, they are known.
use Rattle.std.specs.Prelude.{◌≡◌, ℕ, Bool, true, false}
use Rattle.std.proofs.Common.{refl}
use Rattle.sheet_model.specs.declared.value.Value.TheVariants.{Number, Logical}
use Rattle.affine_forms.specs.Forms.{AffineForm, decision_form}
use Rattle.affine_forms.specs.declared.rel.Rel.{Rel}
use Rattle.affine_forms.specs.Relations.{holds}
use Rattle.form_values.specs.OpenForms.{is_open, decision_is_open}
use Rattle.form_values.specs.declared.open_form.Open.{Open}
use Rattle.form_values.specs.declared.abs.Abs.{Abs}
use Rattle.form_values.specs.declared.abs.Abs.TheVariants.{Known, Affine, Test}

-- a form without terms is a known number
abbrev pub number_of_form : (f : AffineForm) (b : Bool) → is_open f ≡ b → Abs
number_of_form f true h = Affine (record { form = f; has_a_term = h })
number_of_form f false h = Known (Number f.constant)

abbrev pub entry : AffineForm → Abs
entry f = number_of_form f (is_open f) refl

-- so is a test of one a known logical
abbrev pub test_of_form : Rel → (f : AffineForm) (b : Bool) → is_open f ≡ b → Abs
test_of_form r f true h = Test (record { form = f; has_a_term = h }) r
test_of_form r f false h = Known (Logical (holds r f.constant))

abbrev pub test : Rel → AffineForm → Abs
test r f = test_of_form r f (is_open f) refl

-- the form of a decision
abbrev pub open_decision : ℕ → Open
open_decision j = record { form = decision_form j; has_a_term = decision_is_open j }
