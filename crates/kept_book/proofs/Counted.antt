-- Where nothing is made, few forms are.
use Rattle.std.proofs.Common.{◌-◌, ℕ, List, Option, None, Some, arith}
use Rattle.sheet_solving.specs.FromKeptTables.{Parts}
use Rattle.sheet_solving.specs.FromKeptForms.{SheetKept}
use Rattle.sheet_solving.specs.FromSheetLinearModel.{CountsFew}
use Rattle.workbook.specs.State.{State}

pub none_made : (book : State) (tables : List SheetKept) (sheet : ℕ) (parts : Option Parts) (steps : ℕ) → CountsFew book tables sheet parts (steps - steps)
none_made book tables sheet None steps = omega arith
none_made book tables sheet (Some parts) steps = record { anew = omega arith; kept = λ t i e p. omega arith }
