use Rattle.std.proofs.Common.{◌≡◌, ◌++◌, take}
use Rattle.sheet_quick.proofs.parameters.both.Given as goal

-- the cells so far stand behind
abbrev pub invariant-loop-cell : goal.invariant-loop-cell
invariant-loop-cell l = l.all ≡ l.adj ++ take l.cell-index l.listed
