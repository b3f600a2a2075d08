use Rattle.std.proofs.Common.{◌≡◌, take, map}
use Rattle.form_values.specs.declared.abs.Abs.TheVariants.{Known}
use Rattle.form_values.proofs.abs.known_grid.Given as goal

-- the known values so far
abbrev pub invariant-loop-value : goal.invariant-loop-value
invariant-loop-value l = l.items.items ≡ map Known (take l.value-index l.value-items)
