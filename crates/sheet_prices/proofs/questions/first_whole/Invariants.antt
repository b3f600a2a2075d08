use Rattle.std.proofs.Common.{◌≡◌, ℕ, ◌<◌, false}
use Rattle.linear_models.specs.Model.{is_whole_at}
use Rattle.sheet_prices.proofs.questions.first_whole.Given as goal

abbrev pub invariant-loop-place : goal.invariant-loop-place
invariant-loop-place l = (k : ℕ) → k < l.place → is_whole_at l.marks k ≡ false
