use Rattle.std.proofs.Common.{◌≡◌, take}
use Rattle.form_values.proofs.abs.AbsGrid.copy.Given as goal

-- the copies of the values so far
abbrev pub invariant-loop-item : goal.invariant-loop-item
invariant-loop-item l = l.items.items ≡ take l.item-index l.self.items
