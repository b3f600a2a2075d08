use Rattle.affine_forms.specs.Steps.{total}
use Rattle.form_values.specs.Entries.{entry}
use Rattle.form_values.specs.Trials.{made}
use Rattle.form_table.specs.Items.{forms_of}
use Rattle.form_ops.proofs.Answering.{form_answers}
use Rattle.form_areas.proofs.AmongItems.{items_given}
use Rattle.form_areas.proofs.sums.sum_of.Goals as goal

pub returns : goal.returns
returns c =
    rw (c.as_one.ensures, c.as_entry.ensures)
    (items_given c.args.args.now (λ fs. made entry (total fs)) _ c.in_default.ensures c.in_default-first_open.ensures
    (form_answers entry (total (forms_of c.args.args.now)) c.total.result c.total.ensures))
