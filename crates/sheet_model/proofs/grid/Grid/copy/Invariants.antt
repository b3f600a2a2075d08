use Rattle.std.proofs.Common.{◌≡◌, take}
use Rattle.sheet_model.proofs.grid.Grid.copy.Given as goal

-- the copies of the values so far
abbrev pub invariant-loop-item : goal.invariant-loop-item
invariant-loop-item l = l.items.items ≡ take l.item-index l.self.items
