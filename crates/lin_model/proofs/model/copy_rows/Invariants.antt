use Rattle.std.proofs.Common.{◌≡◌, take}
use Rattle.lin_model.proofs.model.copy_rows.Given as goal

-- the copies of the rows so far
abbrev pub invariant-loop-row : goal.invariant-loop-row
invariant-loop-row l = l.copies.items ≡ take l.row-index l.rows
