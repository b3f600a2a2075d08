use Rattle.std.proofs.Common.{◌≡◌, ◌≤◌, ◌⊎◌, ℕ, true, length, slice_get}
use Rattle.std.specs.Prelude.{Some}
use Rattle.cell_refs.specs.declared.cell.Cell.{Cell}
use Rattle.column_strips.specs.Affected.{has_cell}
use Rattle.column_strips.specs.Marks.{HasSpace}
use Rattle.column_strips.specs.Rows.{AreAhead, IsSought, in_column}
use Rattle.column_strips.proofs.gather.gather.Given as goal

abbrev pub invariant-loop-place : goal.invariant-loop-place
invariant-loop-place l = record {
  ahead : AreAhead l.rows.items;
  space : HasSpace l.rows l.done;
  kept : (r : ℕ) → IsSought l.fn.rows.items r → IsSought l.rows.items r;
  sound : (r : ℕ) → IsSought l.rows.items r → IsSought l.fn.rows.items r ⊎ (has_cell l.cells (in_column l.to r) ≡ true);
  few : (n : ℕ) → length l.fn.done.items ≤ n → l.end ≤ n → length l.done.items ≤ n;
  flagged : (p : ℕ) (d : Cell) → slice_get l.done.items p ≡ Some true → slice_get l.cells p ≡ Some d
      → (slice_get l.fn.done.items p ≡ Some true) ⊎ ((d ≡ in_column l.to d.row) × IsSought l.rows.items d.row);
}
