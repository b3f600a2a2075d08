use Rattle.std.proofs.Common.{◌≡◌, map, take}
use Rattle.form_values.specs.Known.{values_in}
use Rattle.form_functions.proofs.called.known_values.Given as goal

-- the values so far
abbrev pub invariant-loop-arg : goal.invariant-loop-arg
invariant-loop-arg l = l.values.items ≡ map values_in (take l.arg-index l.args)
