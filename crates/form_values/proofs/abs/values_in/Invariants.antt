use Rattle.std.proofs.Common.{◌≡◌, take, map}
use Rattle.form_values.specs.Known.{value_in}
use Rattle.form_values.proofs.abs.values_in.Given as goal

-- the values so far
abbrev pub invariant-loop-value : goal.invariant-loop-value
invariant-loop-value l = l.items.items ≡ map value_in (take l.value-index l.value-items)
