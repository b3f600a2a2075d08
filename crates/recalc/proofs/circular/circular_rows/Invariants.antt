use Rattle.std.proofs.Common.{◌≡◌, ◌<◌, ℕ, Some}
use Rattle.std.specs.Prelude.{slice_get}
use Rattle.cell_refs.specs.declared.cell.Cell.{Cell}
use Rattle.recalc.specs.Rows.{AreRows, HasRow}
use Rattle.workbook.specs.Kinds.{book_of}
use Rattle.recalc.proofs.circular.circular_rows.Given as goal

abbrev pub invariant-loop-cell : goal.invariant-loop-cell
invariant-loop-cell l = record {
  right : AreRows (book_of l.book) l.keeps_looks l.rows.entries;
  filled : (p : ℕ) (a : Cell) → p < l.cell-index → slice_get l.cell-items p ≡ Some a → HasRow l.rows.entries a;
}
