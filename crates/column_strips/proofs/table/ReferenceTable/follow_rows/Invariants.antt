use Rattle.std.proofs.Common.{◌≡◌, ◌<◌, ◌≤◌, ℕ, true, slice_get}
use Rattle.std.specs.Prelude.{Some, vec_capacity}
use Rattle.cell_refs.specs.declared.cell.Cell.{Cell}
use Rattle.cell_refs.specs.declared.limits.TheConstants.{ROWS}
use Rattle.column_strips.specs.declared.strip.Strip.{Strip}
use Rattle.column_strips.specs.Affected.{AreFormulas, IsAtOrReaches, has_cell, refers_in}
use Rattle.column_strips.specs.Marks.{AreMarks}
use Rattle.column_strips.specs.Rows.{AreAhead, IsSought, in_column}
use Rattle.column_strips.proofs.table.ReferenceTable.follow_rows.Given as goal

-- the cells of the strips so far that have one of the rows are marked
abbrev pub invariant-loop-strip : goal.invariant-loop-strip
invariant-loop-strip l = record {
  marks : AreMarks l.cells l.seen;
  formulas : AreFormulas l.self l.cells.items;
  kept : (p : ℕ) (c : Cell) → slice_get l.fn.cells.items p ≡ Some c → slice_get l.cells.items p ≡ Some c;
  sound : (c : Cell) → has_cell l.cells.items c ≡ true → IsAtOrReaches (refers_in l.self) l.fn.from c;
  ahead : AreAhead l.rows.items;
  room : ROWS ≤ vec_capacity l.rows;
  rows : (r : ℕ) → IsSought l.rows.items r → has_cell l.cells.items (in_column l.to r) ≡ true;
  sought : (r : ℕ) → IsSought l.fn.rows.items r → IsSought l.rows.items r;
  all : (i : ℕ) (s : Strip) (r : ℕ) → i < l.strip-index → slice_get l.strips i ≡ Some s → IsSought l.fn.rows.items r → s.top ≤ r → r ≤ s.bottom
      → has_cell l.cells.items s.cell ≡ true;
}
