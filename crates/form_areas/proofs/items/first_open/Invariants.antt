use Rattle.std.proofs.Common.{◌≡◌, drop}
use Rattle.form_table.specs.Items.{first_open}
use Rattle.form_areas.proofs.items.first_open.Given as goal

-- no open logical so far
abbrev pub invariant-loop-index : goal.invariant-loop-index
invariant-loop-index l = first_open 0 l.args ≡ first_open l.index (drop l.index l.args)
