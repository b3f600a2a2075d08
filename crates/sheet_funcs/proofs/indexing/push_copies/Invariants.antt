use Rattle.std.proofs.Common.{◌≡◌, ◌++◌, take}
use Rattle.sheet_funcs.proofs.indexing.push_copies.Given as goal

-- the copies so far behind what was there
abbrev pub invariant-loop-item : goal.invariant-loop-item
invariant-loop-item l = l.to.items ≡ l.initial.to.items ++ take l.item-index l.items
