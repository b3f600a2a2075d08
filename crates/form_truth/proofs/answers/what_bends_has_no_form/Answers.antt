use Rattle.form_truth.proofs.NoForm.{bends_no_form}
use Rattle.form_truth.proofs.answers.what_bends_has_no_form.Goals as goal

pub returns : goal.returns
returns c = bends_no_form
