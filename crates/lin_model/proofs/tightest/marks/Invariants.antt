use Rattle.std.proofs.Common.{◌≡◌, map}
use Rattle.std.specs.List.{range_with_len}
use Rattle.linear_models.specs.Bounds.{is_marked}
use Rattle.lin_model.specs.Inner.{without_objective}
use Rattle.lin_model.proofs.tightest.marks.Given as goal

abbrev pub invariant-loop-decision : goal.invariant-loop-decision
invariant-loop-decision l = l.all.items ≡ map (is_marked (without_objective l.of l.sides)) (range_with_len 0 l.decision)
