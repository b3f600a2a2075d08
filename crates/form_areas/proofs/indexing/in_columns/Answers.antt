use Rattle.std.proofs.Common.{Some, ap, ap₂, ◌∙◌}
use Rattle.form_table.specs.Certain.{part_in}
use Rattle.form_areas.specs.Places.{picked_at}
use Rattle.form_areas.proofs.Placing.{whole_at}
use Rattle.form_areas.proofs.indexing.in_columns.Goals as goal

pub returns : goal.returns
returns c = c.both_picked.ensures ∙ ap₂ part_in (ap (λ z. picked_at c.args.rows (Some z)) c.zero.ensures ∙ whole_at c.args.rows) c.place_in_range.ensures
