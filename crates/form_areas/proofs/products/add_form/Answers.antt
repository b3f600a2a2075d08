use Rattle.std.proofs.Common.{Ok, Err}
use Rattle.affine_forms.specs.Steps.{added}
use Rattle.form_areas.proofs.Dots.{made_form}
use Rattle.form_areas.proofs.products.add_form.Goals as goal

pub returns-in-Ok : goal.returns-in-Ok
returns-in-Ok c = made_form (added c.args.total.now c.args.form.now) (Ok _) c.in-Ok.ensures.answer

pub returns-in-Err : goal.returns-in-Err
returns-in-Err c = rw c.form_refusal.ensures (made_form (added c.args.total.now c.args.form.now) (Err c.in-Err.stop) c.in-Err.ensures.answer)
