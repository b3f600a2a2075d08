use Rattle.std.proofs.Common.{◌≡◌, drop}
use Rattle.kept_tables.specs.Tables.{first_idle}
use Rattle.kept_forms.specs.Tables.{is_searching, sheets_in}
use Rattle.kept_forms.proofs.places.first_idle.Given as goal

-- the first one of the list is the first one of the rest
abbrev pub invariant-loop-place : goal.invariant-loop-place
invariant-loop-place l = first_idle (is_searching l.searching) (sheets_in l.tables) ≡ first_idle (is_searching l.searching) (sheets_in (drop l.place l.tables))
