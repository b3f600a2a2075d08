use Rattle.form_extraction.proofs.Refuted.{refusals_are_right}
use Rattle.form_extraction.proofs.refusal_laws.Goals as goal

pub returns : goal.returns
returns c = record { right = refusals_are_right }
