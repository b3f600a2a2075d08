use Rattle.std.proofs.Common.{◌≡◌, take}
use Rattle.sheet_solving.specs.Solving.{by_cells}
use Rattle.sheet_solving.proofs.path.by_cells.Given as goal

abbrev pub invariant-loop-decision : goal.invariant-loop-decision
invariant-loop-decision l = l.made.items ≡ by_cells l.cells (take l.decision-index l.path)
