use Rattle.std.proofs.Common.{◌≡◌, map}
use Rattle.std.specs.List.{range_with_len}
use Rattle.saved_sheets.specs.Saving.{saved_row}
use Rattle.saved_sheets.proofs.sheet_rows.Given as goal

abbrev pub invariant-loop-row : goal.invariant-loop-row
invariant-loop-row l = l.rows ≡ map (saved_row l.book.contents l.sheet.0) (range_with_len 0 l.row)
