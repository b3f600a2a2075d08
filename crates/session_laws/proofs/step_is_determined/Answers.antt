use Rattle.session_laws.proofs.Steps.{step_is_determined}
use Rattle.session_laws.proofs.step_is_determined.Goals as goal

pub returns : goal.returns
returns c = step_is_determined
