use Rattle.std.proofs.Common.{◌≡◌, true, ap, rules, sym, ◌∙◌}
use Rattle.std.specs.List.{list_all}
use Rattle.command_line.specs.Words.{is_sheet, texts_of}
use Rattle.command_line.proofs.SheetLaws.{sheets_all}
use Rattle.optcheck_cli.proofs.reading.named_in.Goals as goal

pub returns-clause-sheets : goal.returns-clause-sheets
returns-clause-sheets c =
    let are : c.are_sheets.result ≡ true = search rules in
    sheets_all _ (ap (λ ws. list_all is_sheet (texts_of ws)) (sym c.as_slice.ensures.value) ∙ sym c.are_sheets.ensures ∙ are)
