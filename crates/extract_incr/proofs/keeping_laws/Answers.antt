use Rattle.extract_incr.proofs.Keeping.{edits_leave_kept}
use Rattle.extract_incr.proofs.keeping_laws.Goals as goal

pub returns : goal.returns
returns c = record { edits = edits_leave_kept }
