use Rattle.std.proofs.Common.{◌≡◌, ◌++◌, [], drop, length}
use Rattle.workbook.specs.Files.{stems_of}
use Rattle.workbook.specs.Opening.{first_twin}
use Rattle.workbook.proofs.Listing.{moved}
use Rattle.workbook.proofs.open.sheets_of.Given as goal

-- the sheets so far are listed, and no two of them have one name
abbrev pub invariant-loop-place : goal.invariant-loop-place
invariant-loop-place l = record {
  twins : first_twin [] (stems_of l.files) ≡ moved l.place (first_twin l.sheets (stems_of (drop l.place l.files)));
  listed : l.sheets ++ stems_of (drop l.place l.files) ≡ stems_of l.files;
  count : length l.sheets ≡ l.place;
}
