use Rattle.std.proofs.Common.{◌≡◌, drop}
use Rattle.kept_tables.specs.Tables.{has_sheet}
use Rattle.kept_forms.specs.Tables.{sheets_in}
use Rattle.kept_forms.proofs.places.place_of.Given as goal

-- the sheet is one of those of the list where it is one of the rest
abbrev pub invariant-loop-place : goal.invariant-loop-place
invariant-loop-place l = has_sheet (sheets_in l.tables) l.sheet.0 ≡ has_sheet (sheets_in (drop l.place l.tables)) l.sheet.0
