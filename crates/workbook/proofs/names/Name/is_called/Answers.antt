use Rattle.std.proofs.Common.{◌≡◌, ◌∙◌, true, ap, sym}
use Rattle.std.specs.Prelude.{◌&&◌, option_map}
use Rattle.cell_refs.specs.declared.cell.SheetId.{SheetId}
use Rattle.cell_refs.specs.Names.{same_letters}
use Rattle.formula_parser.proofs.Letters.{tested}
use Rattle.workbook.specs.State.{is_same_sheet}
use Rattle.workbook.proofs.names.Name.is_called.Goals as goal

pub returns-then-is_same_sheet : goal.returns-then-is_same_sheet
returns-then-is_same_sheet c =
    let same : true ≡ is_same_sheet c.args.self.now.sheet (option_map (λ (s : SheetId). s.0) c.args.sheet) =
    sym c.if-is_same_sheet.true ∙ c.is_same_sheet.ensures ∙ ap (λ n. is_same_sheet n.sheet (option_map (λ (s : SheetId). s.0) c.args.sheet)) c.self.view_is in
    tested c.as_str.result.now c.args.name.now c.eq_ignore_ascii_case.result c.eq_ignore_ascii_case.ensures.test
    ∙ ap (λ l. same_letters l c.args.name.now) c.as_str.ensures.value
    ∙ ap (λ n. same_letters n.name c.args.name.now) c.self.view_is
    ∙ ap (λ b. b && same_letters c.args.self.now.name c.args.name.now) same
