use Rattle.form_table.specs.Items.{mean}
use Rattle.form_areas.proofs.AmongItems.{items_given}
use Rattle.form_areas.proofs.sums.average_of.Goals as goal

pub returns : goal.returns
returns c = rw c.as_one.ensures (items_given c.args.args.now mean _ c.in_default.ensures c.in_default-first_open.ensures c.mean.ensures)
