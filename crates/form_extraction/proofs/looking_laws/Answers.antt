use Rattle.form_extraction.proofs.Cells.{blocked_by_least, looked_is_referred}
use Rattle.form_extraction.proofs.looking_laws.Goals as goal

pub returns : goal.returns
returns c = record { referred = looked_is_referred; least = λ book decisions a p h. blocked_by_least book decisions a p h }
