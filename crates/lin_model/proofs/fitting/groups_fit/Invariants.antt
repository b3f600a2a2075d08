use Rattle.std.proofs.Common.{ℕ, Vec, Global, take}
use Rattle.std.specs.Prelude.{All}
use Rattle.linear_models.specs.Agreement.{IsGroupIn}
use Rattle.lin_model.proofs.fitting.groups_fit.Given as goal

abbrev pub invariant-loop-group : goal.invariant-loop-group
invariant-loop-group l = All (λ (v : Vec ℕ Global). IsGroupIn l.n v.items) (take l.group-index l.groups)
