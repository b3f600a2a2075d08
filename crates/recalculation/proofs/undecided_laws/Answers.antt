use Rattle.recalculation.proofs.Deciding.{undecided_if, undecided_other}
use Rattle.recalculation.proofs.undecided_laws.Goals as goal

pub returns : goal.returns
returns c = record { test = undecided_if; other = undecided_other }
