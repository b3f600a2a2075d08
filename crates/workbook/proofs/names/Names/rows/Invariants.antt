use Rattle.std.proofs.Common.{◌≡◌, ◌++◌, drop}
use Rattle.workbook.specs.Saving.{saved_names}
use Rattle.workbook.proofs.names.Names.rows.Given as goal

-- with those that are left all names have their records
abbrev pub invariant-loop-place : goal.invariant-loop-place
invariant-loop-place l = l.rows ++ saved_names (drop l.place l.self) ≡ saved_names l.self
