-- What stands for names in formulas, as it is held.
use Rattle.std.specs.Prelude.{◌≤◌, ℕ, List, length, Option, Some, None}
use Rattle.cell_refs.specs.declared.limits.TheConstants.{TEXT_BYTES}
use Rattle.cell_refs.specs.Areas.{IsOnSheet}
use Rattle.workbook.specs.Kinds.{Meant, Amount, Cells, first_of}
use Rattle.workbook.specs.State.{Name, text_of}
use Rattle.workbook.specs.declared.named.Meant.TheVariants as meant
use Rattle.workbook.specs.declared.named.Meant as declared

abbrev pub meant_of : declared.Meant → Meant
meant_of (meant.Amount x) = Amount x
meant_of (meant.Cells area) = Cells area

-- an area that is meant lies on a sheet
abbrev pub IsMeantOnSheet : declared.Meant → Type 0
IsMeantOnSheet (meant.Amount x) = Unit {0}
IsMeantOnSheet (meant.Cells area) = IsOnSheet area

-- the text of a name is no longer than a field
abbrev pub IsShort : Name → Type 0
IsShort n = length n.text ≤ TEXT_BYTES

-- the text of a name for a sheet, or else for the whole workbook
abbrev pub text_for : List Name → ℕ → List ℕ → Option (List ℕ)
text_for names home name = first_of (text_of names (Some home) name) (text_of names None name)
