use Rattle.std.proofs.Common.{◌≡◌, take}
use Rattle.std.specs.Prelude.{All}
use Rattle.workbook.specs.Files.{SheetFile}
use Rattle.workbook.specs.Gathered.{records_of}
use Rattle.workbook.specs.Opening.{IsRead, sheet_limits}
use Rattle.workbook.proofs.open.read_files.Given as goal

-- the files so far are read
abbrev pub invariant-loop-place : goal.invariant-loop-place
invariant-loop-place l = record {
  read : All (λ (f : SheetFile). IsRead sheet_limits f.bytes) (take l.place l.files);
  records : l.sheets.items ≡ records_of (take l.place l.files);
}
