-- The kinds of refusals, as they come one after the other.
use Rattle.std.specs.Prelude.{Bool, true, false, Option, Some, None}
use Rattle.form_needs.specs.declared.refusal.FormRefusal.{FormRefusal}
use Rattle.form_needs.specs.declared.refusal.FormRefusal.TheVariants as refusal
use Rattle.needed_forms.specs.declared.stage.Stage.{Stage}
use Rattle.needed_forms.specs.declared.stage.Stage.TheVariants as stage

abbrev pub is_malformed : Stage → Bool
is_malformed stage.Malformed = true
is_malformed s = false

abbrev pub is_circular : Stage → Bool
is_circular stage.Circular = true
is_circular s = false

abbrev pub is_refused : Stage → Bool
is_refused stage.Refused = true
is_refused s = false

abbrev pub is_no_number : Stage → Bool
is_no_number stage.NotNumber = true
is_no_number s = false

-- whether there is a refusal, which is of this kind
abbrev pub is_in : Stage → Option FormRefusal → Bool
is_in s None = false
is_in s (Some (refusal.Malformed c)) = is_malformed s
is_in s (Some (refusal.Circular p)) = is_circular s
is_in s (Some (refusal.NotAffine p at)) = is_refused s
is_in s (Some (refusal.Undecided p at)) = is_refused s
is_in s (Some (refusal.Wide p)) = is_refused s
is_in s (Some (refusal.NotNumber p)) = is_no_number s
