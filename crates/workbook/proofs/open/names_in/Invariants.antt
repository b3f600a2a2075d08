use Rattle.std.proofs.Common.{◌≡◌, [], drop}
use Rattle.workbook.specs.Files.{bad_name_row, names_in}
use Rattle.workbook.proofs.Listing.{moved}
use Rattle.workbook.proofs.open.names_in.Given as goal

-- the records so far are names'
abbrev pub invariant-loop-place : goal.invariant-loop-place
invariant-loop-place l = record {
  good : bad_name_row l.sheets [] l.rows ≡ moved l.place (bad_name_row l.sheets l.names (drop l.place l.rows));
  named : names_in l.sheets l.names (drop l.place l.rows) ≡ names_in l.sheets [] l.rows;
}
