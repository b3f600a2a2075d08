use Rattle.std.proofs.Common.{◌≡◌, map, take}
use Rattle.form_values.specs.Known.{value_in}
use Rattle.form_areas.proofs.records.line.Given as goal

-- the values so far
abbrev pub invariant-loop-item : goal.invariant-loop-item
invariant-loop-item l = l.values.items ≡ map value_in (take l.item-index l.items)
