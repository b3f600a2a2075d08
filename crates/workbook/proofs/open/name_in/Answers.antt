use Rattle.std.proofs.Common.{◌∙◌, Some, ap, arith, sym}
use Rattle.std.specs.Prelude.{option_map, string_bytes}
use Rattle.cell_refs.specs.declared.cell.SheetId.{SheetId}
use Rattle.workbook.specs.Files.{is_name, sheet_in}
use Rattle.workbook.proofs.NameRows.{is_row}
use Rattle.workbook.proofs.open.name_in.Goals as goal

pub returns : goal.returns
returns c =
    is_row c.args.sheets.now (string_bytes c.in_ok-sheet_text.sheet_text) (string_bytes c.in_ok-name.name) (string_bytes c.in_ok-text.text) c.args.fields.now
    (omega (arith, c.if-count-lt3.false, c.len-count.ensures)) (omega (arith, c.if-count-gt4.false, c.len-count.ensures))
    (c.text-sheet_text.ensures ∙ ap Some (sym c.in_ok-sheet_text.ensures.ok))
    (c.text-name.ensures ∙ ap Some (sym c.in_ok-name.ensures.ok))
    (c.text-text.ensures ∙ ap Some (sym c.in_ok-text.ensures.ok))
    (option_map string_bytes c.in_ok-comment.comment) (option_map (λ (s : SheetId). s.0) c.in-Some.sheet) c.in_ok-comment.ensures
    (ap is_name c.in_ok-name.ensures.ok ∙ sym c.is_name.ensures ∙ c.if-not-is_name.false)
    (c.in-Some.ensures.sheet ∙ sym (ap (sheet_in c.args.sheets.now) c.in_ok-sheet_text.ensures.ok))
