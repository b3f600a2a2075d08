use Rattle.std.proofs.Common.{sym, subst}
use Rattle.dictionaries.specs.Run.{IsReached}
use Rattle.dictionaries.proofs.Reaching.{reached_first}
use Rattle.tableau.proofs.first.start.Goals as goal

pub returns-clause-reached : goal.returns-clause-reached
returns-clause-reached c = subst (IsReached c.args.of.now) (sym c.in_ok-dict.ensures) (reached_first c.args.of.now)
