use Rattle.std.proofs.Common.{◌≡◌, ◌≤◌, ◌*◌, ◌^◌, pos, take}
use Rattle.form_areas.specs.Counted.{numbers_in}
use Rattle.form_areas.proofs.counting.count_numbers.Given as goal

-- the numbers of the arguments so far, and that they are not too many
abbrev pub invariant-loop-arg : goal.invariant-loop-arg
invariant-loop-arg l = record {
  value : l.count ≡ pos (numbers_in (take l.arg-index l.args));
  few : numbers_in (take l.arg-index l.args) ≤ l.arg-index * 2 ^ 64;
}
