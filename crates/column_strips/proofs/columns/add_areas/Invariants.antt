use Rattle.std.proofs.Common.{◌≡◌, ◌-◌, ◌≤◌, ◌&&◌, ℕ, length, slice_get, take}
use Rattle.std.specs.Prelude.{◌||◌, Some}
use Rattle.std.specs.List.{list_any}
use Rattle.std.specs.Ordering.{eq_by_cmp}
use Rattle.cell_refs.specs.Areas.{Area}
use Rattle.cell_refs.specs.Cells.{cell_cmp}
use Rattle.column_strips.specs.declared.strip.Strip.{Strip}
use Rattle.column_strips.specs.Columns.{AllRising, HasRoom, strips_in}
use Rattle.column_strips.specs.Strips.{has_strip, is_part}
use Rattle.column_strips.proofs.columns.add_areas.Given as goal

abbrev pub invariant-loop-area : goal.invariant-loop-area
invariant-loop-area l = record {
  rising : AllRising l.columns;
  room : (k : ℕ) (area : Area) → l.area-index ≤ k → slice_get l.areas k ≡ Some area → HasRoom (length l.areas - l.area-index) area l.columns;
  has : (sheet column : ℕ) (s : Strip) → has_strip (strips_in l.columns sheet column) s
      ≡ ((eq_by_cmp cell_cmp s.cell l.cell && list_any (λ area. is_part area sheet column s) (take l.area-index l.areas))
      || has_strip (strips_in l.fn.columns sheet column) s);
}
