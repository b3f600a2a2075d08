use Rattle.std.proofs.Common.{◌≡◌, ℕ, ◌<◌, true}
use Rattle.linear_models.specs.Model.{is_whole_at}
use Rattle.sensitivity.proofs.continuous.has_no_marks.Given as goal

abbrev pub invariant-loop-mark : goal.invariant-loop-mark
invariant-loop-mark l = (j : ℕ) → j < l.mark-index → is_whole_at l.marks j ≡ true → ⊥
