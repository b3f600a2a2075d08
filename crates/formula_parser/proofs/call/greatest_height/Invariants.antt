-- The greatest height so far, and of those that are left.
use Rattle.std.proofs.Common.{◌≡◌, max, drop}
use Rattle.formula_parser.specs.Built.{most_of}
use Rattle.formula_parser.proofs.call.greatest_height.Given as goal

abbrev pub invariant-loop-arg : goal.invariant-loop-arg
invariant-loop-arg l = max l.most (most_of (drop l.arg-index l.args)) ≡ most_of l.args
