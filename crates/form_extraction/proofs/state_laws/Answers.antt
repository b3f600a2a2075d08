use Rattle.form_extraction.proofs.Never.{circular_where_circle}
use Rattle.form_extraction.proofs.States.{circle_is_circular, decision_is_itself, malformed_is_malformed}
use Rattle.form_extraction.proofs.state_laws.Goals as goal

pub returns : goal.returns
returns c = record { decision = decision_is_itself; circular = circle_is_circular; circle = circular_where_circle; malformed = malformed_is_malformed }
