use Rattle.std.specs.Prelude.{vec_capacity}
use Rattle.std.proofs.Common.{◌≤◌}
use Rattle.tableau.specs.Entries.{IsSparse}
use Rattle.tableau.specs.Runs.{HasRun}
use Rattle.tableau.proofs.entries.put_each.Given as goal

abbrev pub invariant-loop-i : goal.invariant-loop-i
invariant-loop-i l = record {
  sparse : IsSparse l.columns l.kept.items;
  room : l.columns ≤ vec_capacity l.kept;
  entries : HasRun l.run l.i l.fn.kept.items l.kept.items;
}
