use Rattle.std.proofs.Common.{ap, ◌∙◌}
use Rattle.form_table.specs.Products.{error_among}
use Rattle.form_areas.proofs.AmongItems.{area_error}
use Rattle.form_areas.proofs.items.error_in.Goals as goal

pub returns-in-Area : goal.returns-in-Area
returns-in-Area c = rw c.in-Area.is (c.error_among.ensures ∙ ap error_among c.items.ensures.items ∙ area_error c.in-Area.grid.items)
