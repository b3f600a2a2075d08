use Rattle.form_extraction.proofs.Agreeing.{form_is}
use Rattle.form_extraction.proofs.Looked.{depends_on_looked}
use Rattle.form_extraction.proofs.layer_laws.Goals as goal

pub returns : goal.returns
returns c = record { equation = form_is; looked = depends_on_looked }
