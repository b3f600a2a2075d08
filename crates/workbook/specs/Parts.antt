-- How a workbook is made of sheets, texts and records of names: each fault exactly where it stands, the first of them in this order:
-- too many texts, too many formulas, a record that is no new name's, too many names.
use Rattle.std.specs.Prelude.{◌≡◌, ◌<◌, ◌≤◌, ℕ, List, [], length, Some, None, Result, Ok, Err}
use Rattle.std.specs.FinMap.{from_entries}
use Rattle.cell_refs.specs.declared.cell.Cell.{Cell}
use Rattle.cell_refs.specs.declared.limits.TheConstants.{FORMULAS, NAMES, TEXTS}
use Rattle.sheet_csv.specs.Sheet.{Record}
use Rattle.workbook.specs.declared.fault.OpenFault.{OpenFault}
use Rattle.workbook.specs.declared.fault.OpenFault.TheVariants as fault
use Rattle.workbook.specs.Files.{bad_name_row, names_in}
use Rattle.workbook.specs.Opening.{formulas_in}
use Rattle.workbook.specs.State.{State}

-- there are not too many texts and formulas
pub record AreFew (texts : List (Cell × List ℕ)) : Type 0 where
  pub cells : length texts ≤ TEXTS
  pub formulas : length (formulas_in texts) ≤ FORMULAS

abbrev pub IsMadeOf : List (List ℕ) → List (Cell × List ℕ) → List Record → Result State OpenFault → Type 0
IsMadeOf sheets texts names (Ok state) =
    AreFew texts × (bad_name_row sheets [] names ≡ None) × (length names ≤ NAMES)
    × (state ≡ record { sheets = sheets; contents = from_entries texts; names = names_in sheets [] names })
IsMadeOf sheets texts names (Err fault.TooManyCells) = TEXTS < length texts
IsMadeOf sheets texts names (Err fault.TooManyFormulas) = (length texts ≤ TEXTS) × (FORMULAS < length (formulas_in texts))
IsMadeOf sheets texts names (Err (fault.BadNameRow row)) = AreFew texts × (bad_name_row sheets [] names ≡ Some row)
IsMadeOf sheets texts names (Err fault.TooManyNames) = AreFew texts × (bad_name_row sheets [] names ≡ None) × (NAMES < length names)
IsMadeOf sheets texts names (Err fault.Memory) = Unit {0}
IsMadeOf sheets texts names (Err _) = ⊥
