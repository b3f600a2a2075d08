use Rattle.std.proofs.Common.{◌≡◌, length}
use Rattle.fractions.specs.Vectors.{at}
use Rattle.tableau.proofs.Putting.{IsPutSoFar}
use Rattle.tableau.proofs.Solving.{IsSolvedAt, IsNone}
use Rattle.tableau.proofs.numbers.solve_entries.Given as goal

abbrev pub invariant-loop-i : goal.invariant-loop-i
invariant-loop-i l = record {
  size : length l.into ≡ length l.row;
  rest : at l.into 0 ≡ at l.fn.into 0;
  put : IsPutSoFar l.kept l.i l.into (IsSolvedAt l.row l.col) IsNone;
}
