use Rattle.sheet_quick.proofs.Opens.{cause_is}
use Rattle.sheet_quick.proofs.opening.cause_of.Goals as goal

pub returns-in_default : goal.returns-in_default
returns-in_default c = cause_is c.args.fault c.in_default.not-Memory
