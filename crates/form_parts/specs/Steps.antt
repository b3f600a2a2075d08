-- What the calls on parts of formulas give each other.
use Rattle.std.specs.Prelude.{◌≡◌, ⊤, length, if◌then◌else◌, List, Option, Some, None, is_some}
use Rattle.cell_refs.specs.declared.span.Span.{Span}
use Rattle.form_values.specs.declared.abs.AbsArg.{AbsArg}
use Rattle.form_values.specs.declared.refusal.OpRefusal.{OpRefusal}
use Rattle.form_values.specs.declared.refusal.OpRefusal.TheVariants as refusal
use Rattle.form_parts.specs.declared.arguments.Values.{Values}
use Rattle.form_parts.specs.declared.arguments.Values.TheVariants.{All, Stop}
use Rattle.form_extraction.specs.Parts.{Part, span_at}
use Rattle.form_extraction.specs.declared.forms.Outcome.{Outcome}
use Rattle.form_extraction.specs.declared.forms.Outcome.TheVariants.{Refused, Without}
use Rattle.form_extraction.specs.declared.forms.Why.TheVariants as why

-- what a refused row comes to: what isn't affine and what is too wide is the whole, and what is open the argument
abbrev pub IsRefusedBy : Span → List Part → OpRefusal → Outcome → Type 0
IsRefusedBy whole parts refusal.Break o = o ≡ Refused whole why.Break
IsRefusedBy whole parts (refusal.Undecided i) o = o ≡ Refused (span_at whole parts i) why.Undecided
IsRefusedBy whole parts refusal.Wide o = o ≡ Refused whole why.Wide
IsRefusedBy whole parts refusal.Memory o = ⊥

-- what is made of the values of some parts, or what stands in their place
abbrev pub on_values : Values → (List AbsArg → Outcome) → Outcome
on_values (All values) f = f values.items
on_values (Stop o) f = o

-- the values, where all have one
abbrev pub given_values : Values → Option (List AbsArg)
given_values (All values) = Some values.items
given_values (Stop o) = None

-- there is a value for each part, where all have one
abbrev pub IsForEach : List Part → Values → Type 0
IsForEach parts (All values) = length values.items ≡ length parts
IsForEach parts (Stop o) = ⊤

-- a part without its value, where it is a reference
abbrev pub unread : Part → Part
unread p = record { span = p.span; looks = p.looks; outcome = if is_some p.reference then Without else p.outcome; reference = p.reference }
