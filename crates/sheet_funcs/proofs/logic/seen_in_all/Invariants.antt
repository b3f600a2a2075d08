use Rattle.std.proofs.Common.{◌≡◌, drop}
use Rattle.sheet_funcs.specs.Items.{logicals_of}
use Rattle.sheet_funcs.specs.SeenLogicals.{seen_or_error}
use Rattle.sheet_funcs.proofs.Collecting.{after_seen}
use Rattle.sheet_funcs.proofs.logic.seen_in_all.Given as goal

-- what was seen so far, and then what is in the rest
abbrev pub invariant-loop-arg : goal.invariant-loop-arg
invariant-loop-arg l = seen_or_error (logicals_of l.args) ≡ after_seen l.seen (seen_or_error (logicals_of (drop l.arg-index l.args)))
