-- What it means that a part bends: it has no form (Chvatal, Linear Programming, chapter 1: a form's value in the middle of two
-- assignments is the number in the middle).
use Rattle.std.specs.Prelude.{◌≡◌}
use Rattle.sheet_model.specs.declared.value.Value.{Value}
use Rattle.sheet_model.specs.declared.value.Value.TheVariants.{Number}
use Rattle.affine_forms.specs.Forms.{Assignment, AffineForm, worth}
use Rattle.form_values.specs.Refusals.{Bends}

-- it isn't the same under every assignment, and no form is its value under every assignment
pub record HasNoForm (part : Assignment → Value) : Type 0 where
  pub not_known : (v : Value) → ((x : Assignment) → part x ≡ v) → ⊥
  pub not_affine : (f : AffineForm) → ((x : Assignment) → part x ≡ Number (worth x f)) → ⊥

abbrev pub WhatBendsHasNoForm : Type 0
WhatBendsHasNoForm = (part : Assignment → Value) → Bends part → HasNoForm part
