use Rattle.std.proofs.Common.{◌≡◌, ◌∙◌, Some, ap, sym}
use Rattle.std.specs.Prelude.{slice_get}
use Rattle.workbook.specs.Saving.{saved_names}
use Rattle.workbook.proofs.EditedKeys.{row_on}
use Rattle.workbook.proofs.NameRows.{index_names}
use Rattle.workbook.proofs.names.Names.rows.Goals as goal

pub loop-place-preserved : goal.loop-place-preserved
loop-place-preserved c =
    let at : slice_get c.args.self.now c.loop-place.place ≡ Some c.in-Some.own.now =
    ap (λ l. slice_get l c.loop-place.place) (sym c.self.view_is)
    ∙ index_names c.self.inside.names.entries c.loop-place.place (c.in-Some.field-0-0.now, c.in-Some.own.now) (sym c.in-Some.ensures.entry) in
    row_on c.loop-place.rows c.add_to.new.rows (saved_names c.args.self.now) c.args.self.now c.loop-place.place c.in-Some.own.now at c.in_ok-add_to.ensures c.loop-place.invariant
