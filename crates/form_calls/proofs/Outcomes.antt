-- What outcomes, refusals and values of parts come to.
use Rattle.std.proofs.Common.{◌≡◌, refl, ap, Some, None}
use Rattle.form_values.specs.declared.abs.AbsArg.{AbsArg}
use Rattle.form_table.specs.Wanted.{grid_of}
use Rattle.form_extraction.specs.Calls.{seen_before}
use Rattle.form_extraction.specs.Parts.{on_outcome, value_in}
use Rattle.form_extraction.specs.declared.forms.Outcome.{Outcome}
use Rattle.form_extraction.specs.declared.forms.Outcome.TheVariants.{Gives, Refused, Without}

-- what has no value stays, and a value goes on
pub stays : (o : Outcome) (f : AbsArg → Outcome) → value_in o ≡ None → on_outcome o f ≡ o
stays (Gives a) f e = cc
stays (Refused at cause) f e = refl
stays Without f e = refl

pub goes_on : (o : Outcome) (f : AbsArg → Outcome) (a : AbsArg) → value_in o ≡ Some a → on_outcome o f ≡ f a
goes_on (Gives b) f a e = let s : b ≡ a = cc in ap f s
goes_on (Refused at cause) f a e = cc
goes_on Without f a e = cc

-- what is seen before of a part that is no reference
pub seen_values : (o : Outcome) (v : AbsArg) → value_in o ≡ Some v → seen_before None o ≡ (grid_of v).items
seen_values (Gives w) v e = let s : w ≡ v = cc in ap (λ v. (grid_of v).items) s
seen_values (Refused at cause) v e = cc
seen_values Without v e = cc
