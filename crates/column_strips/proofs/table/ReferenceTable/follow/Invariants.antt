use Rattle.std.proofs.Common.{◌≡◌, ℕ, slice_get, take}
use Rattle.std.specs.Prelude.{◌||◌, Some}
use Rattle.std.specs.List.{list_any}
use Rattle.cell_refs.specs.declared.cell.Cell.{Cell}
use Rattle.column_strips.specs.Affected.{AreFormulas, has_cell}
use Rattle.column_strips.specs.Marks.{AreMarks}
use Rattle.column_strips.proofs.Referring.{leads}
use Rattle.column_strips.proofs.table.ReferenceTable.follow.Given as goal

-- the cells of the strips so far that have the row are marked
abbrev pub invariant-loop-strip : goal.invariant-loop-strip
invariant-loop-strip l = record {
  marks : AreMarks l.cells l.seen;
  formulas : AreFormulas l.self l.cells.items;
  kept : (p : ℕ) (c : Cell) → slice_get l.fn.cells.items p ≡ Some c → slice_get l.cells.items p ≡ Some c;
  has : (c : Cell) → has_cell l.cells.items c ≡ (has_cell l.fn.cells.items c || list_any (leads l.to.row c) (take l.strip-index l.strips));
}
