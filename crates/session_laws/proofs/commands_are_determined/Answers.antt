use Rattle.session_laws.proofs.Steps.{commands_are_determined}
use Rattle.session_laws.proofs.commands_are_determined.Goals as goal

pub returns : goal.returns
returns c = commands_are_determined
