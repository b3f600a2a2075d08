use Rattle.std.proofs.Common.{sym, ◌∙◌}
use Rattle.lin_model.proofs.FitRows.{own_told}
use Rattle.lin_model.proofs.fitting.is_own.Goals as goal

pub returns-in-Some : goal.returns-in-Some
returns-in-Some c = own_told c.args.n c.args.row.now c.args.left.now c.in-Some.decision c.is_decision.result (sym c.own.ensures ∙ c.in-Some.is) c.is_decision.ensures
