use Rattle.std.proofs.Common.{◌≡◌, drop}
use Rattle.sheet_funcs.specs.Items.{numbers_of}
use Rattle.sheet_funcs.specs.Tallies.{tally_or_error}
use Rattle.sheet_funcs.proofs.tally.Tally.of_args.Given as goal

-- the rest beside what the numbers come to so far
abbrev pub invariant-loop-arg : goal.invariant-loop-arg
invariant-loop-arg l = tally_or_error l.self l.fn.before (numbers_of l.args) ≡ tally_or_error l.self l.so_far (numbers_of (drop l.arg-index l.args))
