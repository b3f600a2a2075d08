use Rattle.std.proofs.Common.{◌≡◌, ℕ, ◌<◌, true}
use Rattle.linear_models.specs.Model.{is_whole_at}
use Rattle.search_trees.proofs.making.has_marks.Given as goal

abbrev pub invariant-loop-decision : goal.invariant-loop-decision
invariant-loop-decision l = (j : ℕ) → j < l.decision → is_whole_at l.of.whole j ≡ true → ⊥
