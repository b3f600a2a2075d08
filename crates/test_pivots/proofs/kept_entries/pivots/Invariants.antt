use Rattle.dictionaries.specs.Run.{IsReached}
use Rattle.test_pivots.proofs.kept_entries.pivots.Given as goal

abbrev pub invariant-loop-made : goal.invariant-loop-made
invariant-loop-made l = IsReached l.program l.dict
