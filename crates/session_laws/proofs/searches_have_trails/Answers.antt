use Rattle.session_laws.proofs.Kept.{trails_are_kept}
use Rattle.session_laws.proofs.searches_have_trails.Goals as goal

pub returns : goal.returns
returns c = trails_are_kept
