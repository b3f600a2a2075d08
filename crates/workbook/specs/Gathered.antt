-- The texts of sheets that have been read.
use Rattle.std.specs.Prelude.{◌≢◌, ◌<◌, ◌≤◌, ℕ, suc, List, [], ◌∷◌, ◌++◌, length, map, All, ⊤}
use Rattle.cell_refs.specs.declared.cell.Cell.{Cell}
use Rattle.sheet_csv.specs.Sheet.{Record, sheet_records}
use Rattle.cell_refs.specs.declared.limits.TheConstants.{COLUMNS, ROWS, TEXTS, TEXT_BYTES}
use Rattle.workbook.specs.declared.gather.Stop.{Stop}
use Rattle.workbook.specs.declared.gather.Stop.TheVariants as stop
use Rattle.workbook.specs.Files.{SheetFile, texts_in_records}
use Rattle.cell_refs.specs.Listed.{IsListed}

-- the texts of sheets by their records, from a sheet on
abbrev pub texts_in_sheets : ℕ → List (List Record) → List (Cell × List ℕ)
texts_in_sheets sheet [] = []
texts_in_sheets sheet (rows ∷ sheets) = texts_in_records sheet 0 rows ++ texts_in_sheets (suc sheet) sheets

-- the records of each file
abbrev pub records_of : List SheetFile → List (List Record)
records_of files = map (λ (f : SheetFile). sheet_records f.bytes) files

-- not more rows than a sheet has, nor more fields
pub record FitsSheet (rows : List Record) : Type 0 where
  pub few : length rows ≤ ROWS
  pub narrow : All (λ (row : Record). length row ≤ COLUMNS) rows

-- why not all of some texts are put together
abbrev pub IsStop : List (Cell × List ℕ) → Stop → Type 0
IsStop texts stop.Full = TEXTS < length texts
IsStop texts stop.Memory = ⊤

-- a text that a file gives a cell: it is not empty, no longer than a field, and on a sheet
pub record IsFieldText (sheets : List (List ℕ)) (e : Cell × List ℕ) : Type 0 where
  pub some : e.1 ≢ []
  pub short : length e.1 ≤ TEXT_BYTES
  pub listed : IsListed sheets e.0
