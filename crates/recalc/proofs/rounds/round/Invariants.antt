use Rattle.std.proofs.Common.{◌≡◌, ◌<◌, ℕ, Some}
use Rattle.std.specs.Prelude.{slice_get}
use Rattle.cell_refs.specs.declared.cell.Cell.{Cell}
use Rattle.recalc.specs.Rounds.{HasValue}
use Rattle.workbook.specs.Kinds.{book_of}
use Rattle.recalc.proofs.rounds.round.Given as goal

abbrev pub invariant-loop-cell : goal.invariant-loop-cell
invariant-loop-cell g l = (p : ℕ) (a : Cell) → p < l.cell-index → slice_get l.formulas p ≡ Some a → HasValue (book_of l.book) (g.C.Cells.known l.before) l.rows.entries a
