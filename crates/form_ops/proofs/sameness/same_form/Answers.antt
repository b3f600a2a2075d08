use Rattle.form_ops.proofs.Answering.{same_form_told}
use Rattle.form_ops.proofs.sameness.same_form.Goals as goal

pub returns : goal.returns
returns c = same_form_told c.same.result c.args.f.now c.args.g.now c.same.ensures
