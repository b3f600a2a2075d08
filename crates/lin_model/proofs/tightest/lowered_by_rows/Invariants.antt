use Rattle.std.proofs.Common.{◌≡◌, drop, None}
use Rattle.std.specs.Prelude.{flat_map}
use Rattle.linear_models.specs.Conditions.{constraints}
use Rattle.linear_models.specs.Bounds.{highs_in}
use Rattle.lin_model.specs.Inner.{lowered}
use Rattle.lin_model.proofs.tightest.lowered_by_rows.Given as goal

abbrev pub invariant-loop-place : goal.invariant-loop-place
invariant-loop-place l = lowered l.greatest (flat_map (highs_in l.decision) (constraints (drop l.place l.rows) (drop l.place l.sides))) ≡ lowered None (flat_map (highs_in l.decision) (constraints l.rows l.sides))
