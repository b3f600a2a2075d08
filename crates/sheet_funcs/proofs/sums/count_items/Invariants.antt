use Rattle.std.proofs.Common.{◌≡◌, ◌≤◌, ◌*◌, ◌^◌, pos, take, length}
use Rattle.std.specs.Prelude.{flat_map}
use Rattle.sheet_funcs.specs.Items.{items_in}
use Rattle.sheet_funcs.proofs.sums.count_items.Given as goal

-- the items of the arguments so far, and that they are not too many
abbrev pub invariant-loop-arg : goal.invariant-loop-arg
invariant-loop-arg l = record {
  value : l.count ≡ pos (length (flat_map items_in (take l.arg-index l.args)));
  few : length (flat_map items_in (take l.arg-index l.args)) ≤ l.arg-index * 2 ^ 64;
}
