use Rattle.std.proofs.Common.{length}
use Rattle.session.proofs.session.Session.+mark.Given as goal

-- fewer cells are left
abbrev pub decreases-mark : goal.decreases-mark
decreases-mark l = length l.cells.now
