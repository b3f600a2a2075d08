use Rattle.std.proofs.Common.{◌∙◌, Some, cond, ap, sym}
use Rattle.cell_refs.specs.Address.{without_dollar}
use Rattle.cell_refs.specs.Sheets.{in_quotes, is_sheet_word}
use Rattle.cell_refs.proofs.SheetReading.{no_opening}
use Rattle.cell_refs.proofs.sheet.sheet_name.Goals as goal

pub returns-in-None-clause-name : goal.returns-in-None-clause-name
returns-in-None-clause-name c =
    let text = c.args.text.now in
    let other = ap is_sheet_word (sym c.as_bytes.ensures.value) ∙ sym c.is_sheet_word.ensures ∙ c.if-is_sheet_word.false in
    sym (ap (λ t. cond t (Some (without_dollar text)) (in_quotes (without_dollar text))) other
    ∙ ap in_quotes (sym c.without_dollar-name.ensures) ∙ no_opening c.without_dollar-name.result.now c.in-None.ensures.cases)
