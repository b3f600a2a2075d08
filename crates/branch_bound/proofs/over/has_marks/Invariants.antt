use Rattle.std.proofs.Common.{◌≡◌, ℕ, ◌<◌, true}
use Rattle.linear_models.specs.Model.{is_whole_at}
use Rattle.branch_bound.proofs.over.has_marks.Given as goal

abbrev pub invariant-loop-decision : goal.invariant-loop-decision
invariant-loop-decision l = (j : ℕ) → j < l.decision → is_whole_at l.model.whole j ≡ true → ⊥
