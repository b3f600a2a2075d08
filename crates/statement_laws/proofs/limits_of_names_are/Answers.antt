use Rattle.std.proofs.Common.{refl}
use Rattle.statement_laws.proofs.limits_of_names_are.Goals as goal

pub returns : goal.returns
returns c = record { constraints = refl; decisions = refl; rows = refl }
