use Rattle.std.proofs.Common.{◌≡◌, ◌++◌, drop, map}
use Rattle.sheet_problems.specs.Forms.{condition_of}
use Rattle.sheet_problems.specs.FromSolverNames.{row_of}
use Rattle.model_building.proofs.statement.row_conditions.Given as goal

-- with those of the rows that are left the conditions are all
abbrev pub invariant-loop-row : goal.invariant-loop-row
invariant-loop-row l = l.conditions.items ++ map (condition_of l.decisions) (map row_of (drop l.row-index l.rows)) ≡ map (condition_of l.decisions) (map row_of l.rows)
