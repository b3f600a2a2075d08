use Rattle.std.proofs.Common.{◌≡◌, ◌<◌, ℕ, Some}
use Rattle.std.specs.Prelude.{slice_get}
use Rattle.cell_refs.specs.declared.cell.Cell.{Cell}
use Rattle.recalc.specs.Rows.{AreRows, HasRow}
use Rattle.recalc.specs.Values.{HasSeen, IsTable}
use Rattle.workbook.specs.Kinds.{book_of}
use Rattle.recalc.proofs.fill.fill.Given as goal

abbrev pub invariant-loop-cell : goal.invariant-loop-cell
invariant-loop-cell l = record {
  right : AreRows (book_of l.book) l.keeps_looks l.rows.entries;
  table : IsTable l.values;
  seen : HasSeen (book_of l.book) l.rows.entries l.values;
  kept : (a : Cell) → HasRow l.fn.rows.entries a → HasRow l.rows.entries a;
  filled : (p : ℕ) (a : Cell) → p < l.cell-index → slice_get l.order p ≡ Some a → HasRow l.rows.entries a;
}
