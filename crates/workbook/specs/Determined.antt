-- Files are opened in one way.
use Rattle.std.specs.Prelude.{◌≡◌, ◌≢◌, ℕ, List, Result, Err}
use Rattle.workbook.specs.declared.fault.OpenFault.{OpenFault}
use Rattle.workbook.specs.declared.fault.OpenFault.TheVariants as fault
use Rattle.workbook.specs.Files.{SheetFile}
use Rattle.workbook.specs.Opening.{Opens}
use Rattle.workbook.specs.State.{State}

-- but for want of memory, files are opened as one workbook, or have one fault
abbrev pub OneOpening : Type 0
OneOpening = (files : List SheetFile) (names : List ℕ) (a b : Result State OpenFault) → Opens files names a → Opens files names b
    → a ≢ Err fault.Memory → b ≢ Err fault.Memory → a ≡ b
