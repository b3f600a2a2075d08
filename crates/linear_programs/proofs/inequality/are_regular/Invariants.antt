use Rattle.std.proofs.Common.{◌≡◌, length, take}
use Rattle.std.specs.Prelude.{All}
use Rattle.linear_programs.proofs.inequality.are_regular.Given as goal

abbrev pub invariant-loop-row : goal.invariant-loop-row
invariant-loop-row l = All (λ r. length r.coefficients ≡ l.width) (take l.row-index l.rows)
