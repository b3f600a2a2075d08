-- Why a run ends before the first record of its script, and the line that it prints then.
use Rattle.std.specs.Prelude.{ℕ, ◌+◌, List, [], ◌++◌, Option, Some, None, codes, slice_get, unwrap_or}
use Rattle.std.specs.Fmt.{decimal}
use Rattle.cell_refs.specs.declared.limits.TheConstants.{COLUMNS, FILE_BYTES, FORMULAS, NAMES, ROWS, SHEETS, TEXT_BYTES, TEXTS}
use Rattle.sheet_csv.specs.declared.fault.SheetFault.{SheetFault}
use Rattle.sheet_csv.specs.declared.fault.SheetFault.TheVariants as sheet
use Rattle.workbook.specs.declared.fault.OpenFault.{OpenFault}
use Rattle.workbook.specs.declared.fault.OpenFault.TheVariants as fault
use Rattle.command_line.specs.Words.{Named}
use Rattle.run_inputs.specs.declared.status.Status.{Status}
use Rattle.run_inputs.specs.declared.status.Status.TheVariants as status
use Rattle.run_inputs.specs.declared.stop.Limit.{Limit}
use Rattle.run_inputs.specs.declared.stop.Limit.TheVariants as limit
use Rattle.run_inputs.specs.declared.stop.Cause.{Cause}
use Rattle.run_inputs.specs.declared.stop.Cause.TheVariants as cause
use Rattle.run_inputs.specs.declared.stop.Input.{Input}
use Rattle.run_inputs.specs.declared.stop.Input.TheVariants as input
use Rattle.run_inputs.specs.declared.stop.Stop.{Stop}
use Rattle.run_inputs.specs.declared.stop.Stop.TheVariants.{TooMuch, BadInput}

-- ---- lines
-- a kind
abbrev pub kind_text : Limit → List ℕ
kind_text limit.Sheets = codes "sheets"
kind_text limit.FileBytes = codes "file"
kind_text limit.ScriptBytes = codes "script"
kind_text limit.Rows = codes "rows"
kind_text limit.Columns = codes "columns"
kind_text limit.FieldBytes = codes "field"
kind_text limit.Cells = codes "cells"
kind_text limit.Formulas = codes "formulas"
kind_text limit.Names = codes "names"

-- the most that there may be of it
abbrev pub most_of : Limit → ℕ
most_of limit.Sheets = SHEETS
most_of limit.FileBytes = FILE_BYTES
most_of limit.ScriptBytes = FILE_BYTES
most_of limit.Rows = ROWS
most_of limit.Columns = COLUMNS
most_of limit.FieldBytes = TEXT_BYTES
most_of limit.Cells = TEXTS
most_of limit.Formulas = FORMULAS
most_of limit.Names = NAMES

-- a cause; the records of the names are counted from 1
abbrev pub cause_text : Cause → List ℕ
cause_text cause.Missing = codes "missing"
cause_text (cause.NotUtf8 place) = codes "not-utf8 " ++ decimal place
cause_text cause.DuplicateSheet = codes "duplicate-sheet"
cause_text (cause.NameRow row) = codes "name-row " ++ decimal (row + 1)

-- an input: the word of its file, or `script`
abbrev pub input_text : Named → Input → List ℕ
input_text named input.Names = named.names
input_text named (input.Sheet place) = unwrap_or (slice_get named.sheets place) []
input_text named input.Script = codes "script"

abbrev pub stop_text : Named → Stop → List ℕ
stop_text named (TooMuch kind) = codes "limit " ++ (kind_text kind ++ (codes " " ++ decimal (most_of kind)))
stop_text named (BadInput of why) = codes "bad-input " ++ (input_text named of ++ (codes " " ++ cause_text why))

abbrev pub stop_line : Named → Stop → List ℕ
stop_line named stop = stop_text named stop ++ codes "\n"

abbrev pub status_of : Stop → Status
status_of (TooMuch kind) = status.Limit
status_of (BadInput of why) = status.BadInput

-- ---- faults of files
-- a fault within a file; want of memory is none
abbrev pub file_stop : Input → SheetFault → Option Stop
file_stop of (sheet.NotUtf8 place) = Some (BadInput of (cause.NotUtf8 place))
file_stop of sheet.TooManyRows = Some (TooMuch limit.Rows)
file_stop of (sheet.TooManyColumns row) = Some (TooMuch limit.Columns)
file_stop of (sheet.FieldTooLong row) = Some (TooMuch limit.FieldBytes)
file_stop of sheet.Memory = None

-- a fault of the files together
abbrev pub open_stop : OpenFault → Option Stop
open_stop (fault.Sheet place f) = file_stop (input.Sheet place) f
open_stop fault.TooManyCells = Some (TooMuch limit.Cells)
open_stop fault.TooManyFormulas = Some (TooMuch limit.Formulas)
open_stop (fault.DuplicateSheet place) = Some (BadInput (input.Sheet place) cause.DuplicateSheet)
open_stop (fault.BadNameRow row) = Some (BadInput input.Names (cause.NameRow row))
open_stop fault.TooManyNames = Some (TooMuch limit.Names)
open_stop (fault.NameFile f) = file_stop input.Names f
open_stop fault.Memory = None
