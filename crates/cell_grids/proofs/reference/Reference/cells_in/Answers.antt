use Rattle.std.proofs.Common.{subst}
use Rattle.cell_grids.specs.Full.{IsFullGrid}
use Rattle.cell_grids.proofs.reference.Reference.cells_in.Goals as goal

pub returns-in_err-push_picked-clause-full : goal.returns-in_err-push_picked-clause-full
returns-in_err-push_picked-clause-full c = subst IsFullGrid c.self.view_is c.self.invariant

pub returns-clause-full : goal.returns-clause-full
returns-clause-full c = subst IsFullGrid c.self.view_is c.self.invariant
