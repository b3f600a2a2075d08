use Rattle.std.specs.FinMap.{keys}
use Rattle.saved_sheets.proofs.Passes.{IsSeen, is_past, passing}
use Rattle.saved_sheets.proofs.Used.{AreWidthsOf}
use Rattle.saved_sheets.proofs.widths.used_widths.Given as goal

abbrev pub invariant-loop-cell : goal.invariant-loop-cell
invariant-loop-cell l = AreWidthsOf (IsSeen l.book.contents l.sheet.0 l.after) l.widths.items

abbrev pub decreases-loop-cell : goal.decreases-loop-cell
decreases-loop-cell l = passing (is_past l.after) (keys l.book.contents)
