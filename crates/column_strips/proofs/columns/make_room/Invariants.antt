use Rattle.std.proofs.Common.{◌≡◌, ◌<◌, ℕ, length, slice_get}
use Rattle.std.specs.Prelude.{Some}
use Rattle.cell_refs.specs.Areas.{Area}
use Rattle.column_strips.specs.Columns.{HasRoom, strips_at}
use Rattle.column_strips.proofs.columns.make_room.Given as goal

abbrev pub invariant-loop-area : goal.invariant-loop-area
invariant-loop-area l = record {
  same : (i : ℕ) → strips_at l.columns.items i ≡ strips_at l.fn.columns.items i;
  room : (k : ℕ) (area : Area) → k < l.area-index → slice_get l.areas k ≡ Some area → HasRoom (length l.areas) area l.columns.items;
}
