use Rattle.std.proofs.Common.{◌≡◌, ◌∙◌, Some, ap, sym}
use Rattle.std.specs.Prelude.{option_map, slice_get}
use Rattle.cell_refs.specs.declared.cell.SheetId.{SheetId}
use Rattle.workbook.specs.State.{is_called}
use Rattle.workbook.proofs.NameRows.{found_at, index_names, passed_at}
use Rattle.workbook.proofs.names.Names.find.Goals as goal

pub returns-then-is_called : goal.returns-then-is_called
returns-then-is_called c =
    let at : slice_get c.args.self.now c.loop-place.place ≡ Some c.in-Some.own.now =
    ap (λ l. slice_get l c.loop-place.place) (sym c.self.view_is)
    ∙ index_names c.self.inside.names.entries c.loop-place.place (c.in-Some.field-0-0.now, c.in-Some.own.now) (sym c.in-Some.ensures.entry) in
    found_at (is_called (option_map (λ (s : SheetId). s.0) c.args.sheet) c.args.name.now) c.args.self.now c.loop-place.place c.in-Some.own.now at c.loop-place.invariant
    c.as_str.result.now (sym c.is_called.ensures ∙ c.if-is_called.true) (c.as_str.ensures.value ∙ ap (λ n. n.text) c.own.view_is)

pub loop-place-preserved : goal.loop-place-preserved
loop-place-preserved c =
    let at : slice_get c.args.self.now c.loop-place.place ≡ Some c.in-Some.own.now =
    ap (λ l. slice_get l c.loop-place.place) (sym c.self.view_is)
    ∙ index_names c.self.inside.names.entries c.loop-place.place (c.in-Some.field-0-0.now, c.in-Some.own.now) (sym c.in-Some.ensures.entry) in
    passed_at (is_called (option_map (λ (s : SheetId). s.0) c.args.sheet) c.args.name.now) c.args.self.now c.loop-place.place c.in-Some.own.now at c.loop-place.invariant
    (sym c.is_called.ensures ∙ c.if-is_called.false)
