-- What bends has no form.
use Rattle.std.proofs.Common.{◌≡◌, sym, ap, ap₂, ◌∙◌}
use Rattle.fractions.specs.Rational.{ℚ}
use Rattle.sheet_model.specs.declared.value.Value.{Value}
use Rattle.sheet_model.specs.declared.value.Value.TheVariants.{Number}
use Rattle.affine_forms.specs.Forms.{Assignment, AffineForm, worth}
use Rattle.form_values.specs.Refusals.{Bends, bends, jumps, middle, midpoint}
use Rattle.form_truth.specs.Bending.{WhatBendsHasNoForm}
use Rattle.form_truth.proofs.Middles.{worth_middle}
use Rattle.form_truth.proofs.Bending.{middle_self}

same_number : (p q : ℚ) → Number p ≡ Number q → p ≡ q
same_number p q e = cc

no_value : (part : Assignment → Value) → Bends part → (v : Value) → ((x : Assignment) → part x ≡ v) → ⊥
no_value part (bends x y p q d e n) v h =
    let s : p ≡ q = same_number p q (sym d ∙ h x ∙ sym (h y) ∙ e) in
    n (h (midpoint x y) ∙ sym (h x) ∙ d ∙ ap Number (sym (middle_self p) ∙ ap (middle p) s))
no_value part (jumps x y n m) v h = n (h x ∙ sym (h y))

no_affine : (part : Assignment → Value) → Bends part → (f : AffineForm) → ((x : Assignment) → part x ≡ Number (worth x f)) → ⊥
no_affine part (bends x y p q d e n) f h =
    n (h (midpoint x y) ∙ ap Number (worth_middle x y f ∙ ap₂ middle (same_number (worth x f) p (sym (h x) ∙ d)) (same_number (worth y f) q (sym (h y) ∙ e))))
no_affine part (jumps x y n m) f h = m (worth x f, h x) (worth y f, h y)

pub bends_no_form : WhatBendsHasNoForm
bends_no_form part b = record { not_known = no_value part b; not_affine = no_affine part b }
