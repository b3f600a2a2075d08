use Rattle.sheet_linear_model.proofs.Refusals.{stop_is}
use Rattle.sheet_linear_model.proofs.stated.stop_of.Goals as goal

pub returns-in_default : goal.returns-in_default
returns-in_default c = stop_is c.args.fault c.in_default.not-Memory
