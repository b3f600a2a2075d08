use Rattle.std.proofs.Common.{◌≡◌, drop}
use Rattle.form_table.specs.Choosing.{same_items}
use Rattle.form_ops.proofs.sameness.same_items.Given as goal

-- the lists are one where their rests are
abbrev pub invariant-loop-index : goal.invariant-loop-index
invariant-loop-index l = same_items l.first l.second ≡ same_items (drop l.index l.first) (drop l.index l.second)
