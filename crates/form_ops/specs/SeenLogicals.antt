-- What is among some logicals, of which some may be open.
use Rattle.std.specs.Prelude.{ℕ, Bool, true, false, not, ◌||◌, List, [], ◌∷◌, Option, Some, None, unwrap_or}
use Rattle.cell_refs.specs.declared.error_kind.ErrorKind.{ErrorKind}
use Rattle.cell_refs.specs.declared.error_kind.ErrorKind.TheVariants as kind
use Rattle.sheet_model.specs.declared.value.Value.TheVariants.{Logical}
use Rattle.affine_forms.specs.declared.rel.Rel.TheVariants as rel
use Rattle.form_values.specs.Trials.{Trial, given, undecided, fault}
use Rattle.form_values.specs.declared.abs.Abs.{Abs}
use Rattle.form_values.specs.declared.abs.Abs.TheVariants.{Known, Affine, Test}
use Rattle.form_table.specs.Logic.{Truth, known, none, opened, is_same, decided_by}
use Rattle.form_ops.specs.declared.logic.Opened.{Opened}
use Rattle.form_ops.specs.declared.logic.Opened.TheVariants.{Nothing, One, Several}
use Rattle.form_ops.specs.declared.logic.Seen.{Seen}

-- before any is seen
abbrev pub nothing_seen : Seen
nothing_seen = record { error = None; some = false; decided = false; opened = Nothing }

-- an open value as a logical
abbrev pub open_logical : Abs → Abs
open_logical (Affine f) = Test f rel.Ne
open_logical a = a

-- one open logical more
abbrev pub opened_with : Opened → ℕ → Abs → Opened
opened_with Nothing i a = One i a
opened_with (One j b) i a = Several j
opened_with (Several j) i a = Several j

-- one more
abbrev pub seen_with : Bool → Seen → Truth → Seen
seen_with deciding s (known b) = record { error = s.error; some = true; decided = s.decided || is_same deciding b; opened = s.opened }
seen_with deciding s (none k) = record { error = Some (unwrap_or s.error k); some = s.some; decided = s.decided; opened = s.opened }
seen_with deciding s (opened i a) = record { error = s.error; some = true; decided = s.decided; opened = opened_with s.opened i a }

-- all of a list more
abbrev pub seen_all : Bool → Seen → List Truth → Seen
seen_all deciding s [] = s
seen_all deciding s (t ∷ ts) = seen_all deciding (seen_with deciding s t) ts

-- what is made of open logicals where no known one decides
abbrev pub of_opened : Bool → Opened → Trial Abs
of_opened deciding Nothing = given (Known (Logical (not deciding)))
of_opened deciding (One i a) = given a
of_opened deciding (Several i) = undecided i

-- what is made of all
abbrev pub of_seen : Bool → Option ErrorKind → Bool → Bool → Opened → Trial Abs
of_seen deciding (Some k) some decided o = fault k
of_seen deciding None false decided o = fault kind.Value
of_seen deciding None true decided o = decided_by deciding decided (of_opened deciding o)

abbrev pub concluded : Bool → Seen → Trial Abs
concluded deciding s = of_seen deciding s.error s.some s.decided s.opened
