use Rattle.simplex.specs.Leaving.{IsSought}
use Rattle.simplex.proofs.leave.pivot_row.Given as goal

abbrev pub invariant-loop-row : goal.invariant-loop-row
invariant-loop-row l = IsSought l.dict l.col l.row l.sought
