use Rattle.std.proofs.Common.{ap, ◌∙◌, length}
use Rattle.std.specs.Prelude.{filter}
use Rattle.form_table.specs.Items.{is_number}
use Rattle.form_areas.proofs.Counts.{area_count}
use Rattle.form_areas.proofs.counting.items_in.Goals as goal

pub returns-in-Area : goal.returns-in-Area
returns-in-Area c = rw c.in-Area.is (c.count_among.ensures ∙ ap (λ xs. length (filter is_number xs)) c.items.ensures.items ∙ area_count c.in-Area.grid.items)
