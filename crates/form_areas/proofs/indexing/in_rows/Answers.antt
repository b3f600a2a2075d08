use Rattle.std.proofs.Common.{Some, ap, ap₂, ◌∙◌}
use Rattle.form_table.specs.Certain.{part_in}
use Rattle.form_areas.specs.Places.{picked_at}
use Rattle.form_areas.proofs.Placing.{whole_at}
use Rattle.form_areas.proofs.indexing.in_rows.Goals as goal

pub returns : goal.returns
returns c = c.both_picked.ensures ∙ ap₂ part_in c.place_in_range.ensures (ap (λ z. picked_at c.args.cols (Some z)) c.zero.ensures ∙ whole_at c.args.cols)
