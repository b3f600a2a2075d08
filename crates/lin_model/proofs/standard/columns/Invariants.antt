use Rattle.std.proofs.Common.{◌≡◌, ◌≤◌, ◌*◌, ◌++◌, drop}
use Rattle.linear_models.specs.Standard.{columns_from}
use Rattle.lin_model.proofs.standard.columns.Given as goal

abbrev pub invariant-loop-split : goal.invariant-loop-split
invariant-loop-split l = record {
  told : l.all.items ++ columns_from l.next (drop l.split-index l.splits) ≡ columns_from 0 l.splits;
  few : l.next ≤ 2 * l.split-index;
}
