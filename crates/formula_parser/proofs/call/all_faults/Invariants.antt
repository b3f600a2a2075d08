-- The faults so far, and of those that are left.
use Rattle.std.proofs.Common.{◌≡◌, drop}
use Rattle.formula_parser.specs.Built.{any_faults, either}
use Rattle.formula_parser.proofs.call.all_faults.Given as goal

abbrev pub invariant-loop-arg : goal.invariant-loop-arg
invariant-loop-arg l = either l.faults (any_faults (drop l.arg-index l.args)) ≡ any_faults l.args
