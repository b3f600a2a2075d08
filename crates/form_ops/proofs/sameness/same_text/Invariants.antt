use Rattle.std.proofs.Common.{◌≡◌, drop}
use Rattle.form_table.specs.Choosing.{same_text}
use Rattle.form_ops.proofs.sameness.same_text.Given as goal

-- the texts are one where their rests are
abbrev pub invariant-loop-index : goal.invariant-loop-index
invariant-loop-index l = same_text l.s l.t ≡ same_text (drop l.index l.s) (drop l.index l.t)
