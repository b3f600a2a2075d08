use Rattle.form_extraction.proofs.ByExample.{blocks_hold, picks_hold, refusals_hold}
use Rattle.form_extraction.proofs.examples_hold.Goals as goal

pub returns : goal.returns
returns c = record { refusals = refusals_hold; blocks = blocks_hold; picks = picks_hold }
