use Rattle.std.proofs.Common.{ap, sym, ◌∙◌, Some}
use Rattle.form_values.specs.declared.abs.Abs.TheVariants.{Known}
use Rattle.form_table.specs.Items.{item_at}
use Rattle.form_table.specs.Wanted.{form}
use Rattle.form_areas.proofs.AmongItems.{element_added}
use Rattle.form_areas.proofs.items.add_known.Goals as goal

pub returns-in-Number : goal.returns-in-Number
returns-in-Number c =
    element_added _ (Known c.args.value.now) c.constant.result _ (ap (λ v. item_at (Known v)) c.in-Number.is ∙ ap (λ f. Some (form f)) (sym c.constant.ensures)) c.add_to-in-Number.ensures.answer
