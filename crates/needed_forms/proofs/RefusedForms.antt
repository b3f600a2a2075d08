-- Which forms have refusals of which kind.
use Rattle.std.proofs.Common.{◌≡◌, refl, Bool, true, false, Option, Some, None}
use Rattle.std.specs.Option.{option_and_then}
use Rattle.cell_refs.specs.declared.span.Span.{Span}
use Rattle.affine_forms.specs.Forms.{AffineForm}
use Rattle.form_values.specs.declared.abs.Abs.{Abs}
use Rattle.cell_refs.specs.declared.place.Place.{Place}
use Rattle.cell_refs.specs.declared.place.Place.TheVariants as place
use Rattle.form_extraction.specs.declared.forms.CellForm.{CellForm}
use Rattle.form_extraction.specs.declared.forms.CellForm.TheVariants.{Form, Refused, Blocked, Circular, Malformed}
use Rattle.form_extraction.specs.declared.forms.Why.{Why}
use Rattle.form_extraction.specs.declared.forms.Why.TheVariants as why
use Rattle.form_needs.specs.FromSheetProblems.{number_form}
use Rattle.form_needs.specs.declared.refusal.FormRefusal.{FormRefusal}
use Rattle.needed_forms.specs.declared.stage.Stage.{Stage}
use Rattle.needed_forms.specs.declared.stage.Stage.TheVariants as stage
use Rattle.needed_forms.specs.Stages.{is_in, is_no_number, is_refused}
use Rattle.needed_forms.specs.Told.{malformed_at, refusal_of, refused_as, unless_number}

-- ---- the kinds of refusals
refused_is : (s : Stage) (p : Place) (at : Span) (cause : Why) → is_in s (Some (refused_as p at cause)) ≡ is_refused s
refused_is s p at why.Break = refl
refused_is s p at why.Undecided = refl
refused_is s p at why.Wide = refl

pub refused_there : (p : Place) (at : Span) (cause : Why) → is_in stage.Refused (Some (refused_as p at cause)) ≡ true
refused_there p at cause = refused_is stage.Refused p at cause

-- what isn't a number is of the last kind alone
last_alone : (s : Stage) → is_no_number s ≡ false → (p : Place) (o : Option AffineForm) → is_in s (unless_number p o) ≡ false
last_alone s h p (Some f) = refl
last_alone s h p None = h

not_both : (b : Bool) → b ≡ false → b ≡ true → ⊥
not_both true h k = cc
not_both false h k = cc

-- ---- the forms that have them
module _ (p : Place) where
  abbrev pub refusal_here : Option CellForm → Option FormRefusal
  refusal_here f = option_and_then (refusal_of p) f

  pub malformed_form : (o : Option CellForm) → is_in stage.Malformed (refusal_here o) ≡ true → o ≡ Some Malformed
  malformed_form None h = cc
  malformed_form (Some (Form a)) h = absurd (not_both _ (last_alone stage.Malformed refl p (number_form a)) h)
  malformed_form (Some (Refused at cause)) h = absurd (not_both _ (refused_is stage.Malformed p at cause) h)
  malformed_form (Some (Blocked by)) h = cc
  malformed_form (Some Circular) h = cc
  malformed_form (Some Malformed) h = refl

  -- a malformed place has no refusal of another kind
  malformed_alone : (s : Stage) → is_in s (malformed_at p) ≡ true → s ≡ stage.Malformed
  malformed_alone s h = by s p h
    where
      by : (s : Stage) (p : Place) → is_in s (malformed_at p) ≡ true → s ≡ stage.Malformed
      by stage.Malformed p h = refl
      by stage.Circular (place.Cell c) h = cc
      by stage.Circular (place.Side k) h = cc
      by stage.Refused (place.Cell c) h = cc
      by stage.Refused (place.Side k) h = cc
      by stage.NotNumber (place.Cell c) h = cc
      by stage.NotNumber (place.Side k) h = cc

  pub circular_form : (o : Option CellForm) → is_in stage.Circular (refusal_here o) ≡ true → o ≡ Some Circular
  circular_form None h = cc
  circular_form (Some (Form a)) h = absurd (not_both _ (last_alone stage.Circular refl p (number_form a)) h)
  circular_form (Some (Refused at cause)) h = absurd (not_both _ (refused_is stage.Circular p at cause) h)
  circular_form (Some (Blocked by)) h = cc
  circular_form (Some Circular) h = refl
  circular_form (Some Malformed) h = let m = malformed_alone stage.Circular h in cc

  pub refused_form : (o : Option CellForm) → is_in stage.Refused (refusal_here o) ≡ true → (at : Span) × (cause : Why) × (o ≡ Some (Refused at cause))
  refused_form None h = cc
  refused_form (Some (Form a)) h = absurd (not_both _ (last_alone stage.Refused refl p (number_form a)) h)
  refused_form (Some (Refused at cause)) h = (at, cause, refl)
  refused_form (Some (Blocked by)) h = cc
  refused_form (Some Circular) h = cc
  refused_form (Some Malformed) h = let m = malformed_alone stage.Refused h in cc

  pub numberless_form : (o : Option CellForm) → is_in stage.NotNumber (refusal_here o) ≡ true → (a : Abs) × (o ≡ Some (Form a)) × (number_form a ≡ None)
  numberless_form None h = cc
  numberless_form (Some (Form a)) h = (a, refl, by (number_form a) h)
    where
      by : (o : Option AffineForm) → is_in stage.NotNumber (unless_number p o) ≡ true → o ≡ None
      by (Some f) h = cc
      by None h = refl
  numberless_form (Some (Refused at cause)) h = absurd (not_both _ (refused_is stage.NotNumber p at cause) h)
  numberless_form (Some (Blocked by)) h = cc
  numberless_form (Some Circular) h = cc
  numberless_form (Some Malformed) h = let m = malformed_alone stage.NotNumber h in cc
