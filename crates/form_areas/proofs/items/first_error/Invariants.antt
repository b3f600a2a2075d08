use Rattle.std.proofs.Common.{◌≡◌, drop, flat_map}
use Rattle.form_table.specs.Items.{first_error, items_in}
use Rattle.form_areas.proofs.items.first_error.Given as goal

-- no error so far
abbrev pub invariant-loop-arg : goal.invariant-loop-arg
invariant-loop-arg l = first_error (flat_map items_in l.args) ≡ first_error (flat_map items_in (drop l.arg-index l.args))
