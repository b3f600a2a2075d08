use Rattle.std.proofs.Common.{◌≡◌, ◌≤◌, ◌*◌, ◌^◌, pos, take}
use Rattle.form_areas.specs.Counted.{items_among}
use Rattle.form_areas.proofs.counting.count_items.Given as goal

-- the numbers of the arguments so far, and that they are not too many
abbrev pub invariant-loop-arg : goal.invariant-loop-arg
invariant-loop-arg l = record {
  value : l.count ≡ pos (items_among (take l.arg-index l.args));
  few : items_among (take l.arg-index l.args) ≤ l.arg-index * 2 ^ 64;
}
