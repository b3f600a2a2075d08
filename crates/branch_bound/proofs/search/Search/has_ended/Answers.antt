use Rattle.std.proofs.Common.{sym, ◌∙◌}
use Rattle.branch_bound.proofs.Overs.{ended_is}
use Rattle.branch_bound.proofs.search.Search.has_ended.Goals as goal

pub returns : goal.returns
returns c = rw (← c.self.view_is) (ended_is c.self.inside c.is_over.result (sym c.is_some.ensures ∙ c.if-is_some.false) c.is_over.ensures)
