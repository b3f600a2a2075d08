use Rattle.std.proofs.Common.{take}
use Rattle.std.specs.Prelude.{All}
use Rattle.opt_certificate.specs.Rows.{RowIsNarrow, RowStands}
use Rattle.opt_certificate.proofs.point.rows_stand.Given as goal

abbrev pub invariant-loop-row : goal.invariant-loop-row
invariant-loop-row l = record {
  stand : All (RowStands l.with_constant l.point) (take l.row-index l.rows);
  narrow : All (RowIsNarrow l.with_constant l.point) (take l.row-index l.rows);
}
