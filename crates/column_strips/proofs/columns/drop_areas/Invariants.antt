use Rattle.std.proofs.Common.{◌≡◌, ◌≤◌, ◌&&◌, ℕ, take}
use Rattle.std.specs.Prelude.{not}
use Rattle.std.specs.List.{list_any}
use Rattle.std.specs.Ordering.{eq_by_cmp}
use Rattle.cell_refs.specs.Cells.{cell_cmp}
use Rattle.column_strips.specs.declared.strip.Strip.{Strip}
use Rattle.column_strips.specs.Columns.{AllRising, room_at, strips_in}
use Rattle.column_strips.specs.Strips.{has_strip, is_part}
use Rattle.column_strips.proofs.columns.drop_areas.Given as goal

abbrev pub invariant-loop-area : goal.invariant-loop-area
invariant-loop-area l = record {
  rising : AllRising l.columns;
  room : (i : ℕ) → room_at l.fn.columns i ≤ room_at l.columns i;
  has : (sheet column : ℕ) (s : Strip) → has_strip (strips_in l.columns sheet column) s
      ≡ (not (eq_by_cmp cell_cmp s.cell l.cell && list_any (λ area. is_part area sheet column s) (take l.area-index l.areas))
      && has_strip (strips_in l.fn.columns sheet column) s);
}
