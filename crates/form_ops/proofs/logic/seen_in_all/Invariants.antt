use Rattle.std.proofs.Common.{◌≡◌, drop}
use Rattle.form_table.specs.Logic.{truths_of}
use Rattle.form_ops.specs.SeenLogicals.{seen_all, nothing_seen}
use Rattle.form_ops.proofs.logic.seen_in_all.Given as goal

-- with those of the arguments that are left it is what is among all
abbrev pub invariant-loop-index : goal.invariant-loop-index
invariant-loop-index l = seen_all l.deciding l.seen (truths_of l.index (drop l.index l.args)) ≡ seen_all l.deciding nothing_seen (truths_of 0 l.args)
