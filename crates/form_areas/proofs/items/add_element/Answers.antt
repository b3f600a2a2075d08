use Rattle.std.proofs.Common.{ap}
use Rattle.form_table.specs.Items.{item_at}
use Rattle.form_areas.proofs.AmongItems.{element_added}
use Rattle.form_areas.proofs.items.add_element.Goals as goal

pub returns-in-Affine : goal.returns-in-Affine
returns-in-Affine c = element_added _ c.args.item.now c.in-Affine.open.form _ (ap item_at c.in-Affine.is) c.add_to.ensures.answer
