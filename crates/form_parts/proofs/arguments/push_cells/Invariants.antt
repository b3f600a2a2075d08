use Rattle.std.proofs.Common.{◌≡◌, ◌++◌, take}
use Rattle.form_parts.proofs.arguments.push_cells.Given as goal

-- the cells so far behind what was there
abbrev pub invariant-loop-cell : goal.invariant-loop-cell
invariant-loop-cell l = l.to.items ≡ l.initial.to.items ++ take l.cell-index l.cells
