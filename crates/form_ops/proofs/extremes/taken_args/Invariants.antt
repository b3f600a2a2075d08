use Rattle.std.proofs.Common.{◌≡◌, drop}
use Rattle.form_ops.specs.SeenNumbers.{taken_args, untaken}
use Rattle.form_ops.proofs.extremes.taken_args.Given as goal

-- with those of the arguments that are left it is what is among all
abbrev pub invariant-loop-index : goal.invariant-loop-index
invariant-loop-index l = taken_args l.extremum l.index l.taken (drop l.index l.args) ≡ taken_args l.extremum 0 untaken l.args
