use Rattle.fractions.proofs.Powers.{power_rules}
use Rattle.fractions.proofs.power_rules.Goals as goal

pub returns : goal.returns
returns c = power_rules
