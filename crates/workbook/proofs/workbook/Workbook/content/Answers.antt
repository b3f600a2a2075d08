use Rattle.std.proofs.Common.{◌∙◌, [], ap, sym}
use Rattle.std.specs.Prelude.{unwrap_or}
use Rattle.workbook.specs.Contents.{content_of}
use Rattle.workbook.proofs.Keeping.{content_held, text_held}
use Rattle.workbook.proofs.workbook.Workbook.content.Goals as goal

pub returns-in-Some : goal.returns-in-Some
returns-in-Some c =
    c.as_str.ensures ∙ ap (λ o. unwrap_or (text_held o) []) c.in-Some.ensures.value ∙ sym (content_held c.self.inside.cells.entries c.args.cell)
    ∙ ap (λ s. content_of s.contents c.args.cell) c.self.view_is

pub returns-in-None : goal.returns-in-None
returns-in-None c =
    ap (λ o. unwrap_or (text_held o) []) c.in-None.ensures.value
    ∙ sym (content_held c.self.inside.cells.entries c.args.cell) ∙ ap (λ s. content_of s.contents c.args.cell) c.self.view_is
