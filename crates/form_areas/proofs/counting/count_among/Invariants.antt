use Rattle.std.proofs.Common.{◌≡◌, ◌≤◌, ◌+◌, length, drop}
use Rattle.std.specs.Prelude.{filter}
use Rattle.form_table.specs.Items.{is_number}
use Rattle.form_areas.proofs.counting.count_among.Given as goal

-- the numbers so far and those of the rest, and that they are not too many
abbrev pub invariant-loop-item : goal.invariant-loop-item
invariant-loop-item l = record {
  all : length (filter is_number l.items) ≡ l.count + length (filter is_number (drop l.item-index l.items));
  few : l.count ≤ l.item-index;
}
