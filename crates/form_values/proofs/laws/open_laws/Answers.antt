use Rattle.form_values.proofs.Opening.{open_has_a_term}
use Rattle.form_values.proofs.laws.open_laws.Goals as goal

pub returns : goal.returns
returns c = open_has_a_term
