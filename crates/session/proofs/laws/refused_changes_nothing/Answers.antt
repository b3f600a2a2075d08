use Rattle.session.proofs.Refused.{refused_changes_nothing}
use Rattle.session.proofs.laws.refused_changes_nothing.Goals as goal

pub returns : goal.returns
returns c = refused_changes_nothing
