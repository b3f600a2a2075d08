use Rattle.std.proofs.Common.{◌≡◌, ◌++◌, suc, drop}
use Rattle.std.specs.Prelude.{flat_map}
use Rattle.std.specs.List.{AllByRecursion}
use Rattle.calculations.specs.Calculation.{exact}
use Rattle.linear_models.specs.Linear.{first_wide}
use Rattle.lin_model.specs.Inner.{AreForms}
use Rattle.lin_model.proofs.RowsLeft.{left_from}
use Rattle.lin_model.proofs.rows.rows_left.Given as goal

abbrev pub invariant-loop-place : goal.invariant-loop-place
invariant-loop-place l = record {
  rows : l.rows.items ++ flat_map exact (left_from l.place l.of l.sides) ≡ flat_map exact (left_from 0 l.of l.sides);
  narrow : first_wide (suc l.place) (left_from l.place l.of l.sides) ≡ first_wide 1 (left_from 0 l.of l.sides);
  forms : AllByRecursion AreForms (drop l.place l.sides) → AllByRecursion AreForms l.sides;
}
