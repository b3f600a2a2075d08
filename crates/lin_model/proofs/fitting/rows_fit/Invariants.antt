use Rattle.std.proofs.Common.{◌↔◌, drop}
use Rattle.lin_model.specs.Inner.{RowsFit}
use Rattle.lin_model.proofs.fitting.rows_fit.Given as goal

abbrev pub invariant-loop-place : goal.invariant-loop-place
invariant-loop-place l = RowsFit l.n l.rows l.sides ↔ RowsFit l.n (drop l.place l.rows) (drop l.place l.sides)
