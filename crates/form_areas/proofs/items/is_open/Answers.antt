use Rattle.std.proofs.Common.{sym}
use Rattle.form_areas.proofs.AmongItems.{area_closed}
use Rattle.form_areas.proofs.items.is_open.Goals as goal

pub returns-in_default-2 : goal.returns-in_default-2
returns-in_default-2 c = rw c.in_default.is (sym (area_closed c.in_default.field-0.items))
