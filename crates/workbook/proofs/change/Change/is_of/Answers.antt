use Rattle.std.proofs.Common.{◌∙◌, ap, sym}
use Rattle.std.specs.Prelude.{◌&&◌, string_bytes}
use Rattle.cell_refs.specs.Names.{same_letters}
use Rattle.formula_parser.proofs.Letters.{tested}
use Rattle.workbook.proofs.change.Change.is_of.Goals as goal

pub returns-then-is_same_sheet : goal.returns-then-is_same_sheet
returns-then-is_same_sheet c =
    tested c.as_str.result.now c.args.name.now c.eq_ignore_ascii_case.result c.eq_ignore_ascii_case.ensures.test
    ∙ ap (λ own. same_letters own c.args.name.now) c.as_str.ensures.value
    ∙ ap (λ b. b && same_letters (string_bytes c.args.self.now.name) c.args.name.now) (sym c.if-is_same_sheet.true ∙ c.is_same_sheet.ensures)
