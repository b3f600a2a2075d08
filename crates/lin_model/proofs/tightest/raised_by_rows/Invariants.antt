use Rattle.std.proofs.Common.{◌≡◌, drop, None}
use Rattle.std.specs.Prelude.{flat_map}
use Rattle.linear_models.specs.Conditions.{constraints}
use Rattle.linear_models.specs.Bounds.{lows_in}
use Rattle.lin_model.specs.Inner.{raised}
use Rattle.lin_model.proofs.tightest.raised_by_rows.Given as goal

abbrev pub invariant-loop-place : goal.invariant-loop-place
invariant-loop-place l = raised l.least (flat_map (lows_in l.decision) (constraints (drop l.place l.rows) (drop l.place l.sides))) ≡ raised None (flat_map (lows_in l.decision) (constraints l.rows l.sides))
