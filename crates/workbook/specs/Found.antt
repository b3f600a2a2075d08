-- The records of a file of names are saved as they were found.
use Rattle.std.specs.Prelude.{◌≡◌, ℕ, List, [], None}
use Rattle.sheet_csv.specs.Sheet.{Record}
use Rattle.workbook.specs.Files.{bad_name_row, names_in}
use Rattle.workbook.specs.Saving.{saved_names}

-- where each record is a new name's, the names are saved under just these records, with their comments
abbrev pub SavedAsFound : Type 0
SavedAsFound = (sheets : List (List ℕ)) (records : List Record) → bad_name_row sheets [] records ≡ None → saved_names (names_in sheets [] records) ≡ records
