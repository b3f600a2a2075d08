use Rattle.std.proofs.Common.{◌∙◌, ap, sym}
use Rattle.recalculation.specs.Entries.{entry}
use Rattle.workbook.specs.Contents.{kind_of}
use Rattle.workbook.specs.Kinds.{book_of}
use Rattle.workbook.proofs.Keeping.{entry_held, says_held}
use Rattle.workbook.proofs.workbook.Workbook.kind.Goals as goal

pub returns-in-Some : goal.returns-in-Some
returns-in-Some c =
    c.kind.ensures ∙ ap (λ o. kind_of (says_held o)) c.in-Some.ensures.value
    ∙ ap kind_of (sym (entry_held c.self.inside.sheets c.self.inside.names c.self.inside.cells.entries c.args.cell c.self.inside.formulas c.self.invariant.kept))
    ∙ ap (λ s. kind_of (entry (book_of s) c.args.cell)) c.self.view_is

pub returns-in-None : goal.returns-in-None
returns-in-None c =
    ap (λ o. kind_of (says_held o)) c.in-None.ensures.value
    ∙ ap kind_of (sym (entry_held c.self.inside.sheets c.self.inside.names c.self.inside.cells.entries c.args.cell c.self.inside.formulas c.self.invariant.kept))
    ∙ ap (λ s. kind_of (entry (book_of s) c.args.cell)) c.self.view_is
