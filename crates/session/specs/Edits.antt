-- What edits name, or the first cause why they are refused.
use Rattle.std.specs.Prelude.{ℕ, List, Option, Some, None, Result, Ok, Err}
use Rattle.cell_refs.specs.declared.cell.Cell.{Cell}
use Rattle.workbook.specs.declared.fault.EditFault.{EditFault}
use Rattle.workbook.specs.declared.fault.EditFault.TheVariants as fault
use Rattle.workbook.specs.Edits.{set_fault}
use Rattle.workbook.specs.Naming.{name_fault, unname_fault}
use Rattle.workbook.specs.State.{State}
use Rattle.commands.specs.declared.answer.Answer.{Answer}
use Rattle.commands.specs.declared.answer.Answer.TheVariants as answer
use Rattle.commands.specs.Locating.{cell_named, sheet_or_book}

-- what comes next, where nothing has been refused
abbrev pub and_then : {A B : Type 0} → Result A Answer → (A → Result B Answer) → Result B Answer
and_then (Ok x) f = f x
and_then (Err a) f = Err a

-- the answer for a fault of the workbook; want of memory is none of the faults that are looked for
abbrev pub refused : EditFault → Answer
refused fault.OutOfSheet = answer.OutOfSheet
refused fault.FieldTooLong = answer.FieldTooLong
refused fault.TooManyCells = answer.TooManyCells
refused fault.TooManyFormulas = answer.TooManyFormulas
refused fault.BadName = answer.BadName
refused fault.TooManyNames = answer.TooManyNames
refused fault.Memory = answer.UnknownCommand

abbrev pub unless : {A : Type 0} → Option EditFault → A → Result A Answer
unless None x = Ok x
unless (Some f) x = Err (refused f)

-- the cell that gets a text
abbrev pub cell_to_set : State → List ℕ → List ℕ → Result Cell Answer
cell_to_set book address text = and_then (cell_named book.sheets address) (λ cell. unless (set_fault book cell text) cell)

-- the sheet, or the whole workbook, for which a name gets a text
abbrev pub home_to_name : State → List ℕ → List ℕ → List ℕ → Result (Option ℕ) Answer
home_to_name book sheet name text = and_then (sheet_or_book book.sheets sheet) (λ home. unless (name_fault book home name text) home)

-- the same of a name that is removed
abbrev pub home_to_unname : State → List ℕ → List ℕ → Result (Option ℕ) Answer
home_to_unname book sheet name = and_then (sheet_or_book book.sheets sheet) (λ home. unless (unname_fault name) home)
