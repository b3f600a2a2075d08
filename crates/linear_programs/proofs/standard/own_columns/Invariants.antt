use Rattle.std.proofs.Common.{◌≡◌}
use Rattle.linear_programs.specs.Program.{single_columns}
use Rattle.linear_programs.proofs.standard.own_columns.Given as goal

abbrev pub invariant-loop-j : goal.invariant-loop-j
invariant-loop-j l = l.columns.items ≡ single_columns l.j
