use Rattle.std.proofs.Common.{◌∙◌, ap, sym}
use Rattle.std.specs.Prelude.{◌&&◌, nat_le, nat_lt, not}
use Rattle.cell_refs.specs.declared.limits.TheConstants.{FORMULAS}
use Rattle.workbook.specs.Contents.{content_of}
use Rattle.workbook.specs.State.{formula_count, is_formula_text, with_text}
use Rattle.workbook.proofs.Keeping.{empty_counts, text_counts}
use Rattle.workbook.proofs.workbook.Workbook.would_have_too_many.Goals as goal

pub returns-then-is_empty : goal.returns-then-is_empty
returns-then-is_empty c =
    empty_counts c.self.inside.sheets c.self.inside.names c.self.inside.cells.entries c.args.cell c.self.inside.formulas c.self.invariant.kept c.args.text.now
    (sym c.is_empty.ensures ∙ c.if-is_empty.true)
    ∙ ap (λ s. nat_lt FORMULAS (formula_count (with_text s.contents c.args.cell c.args.text.now))) c.self.view_is

pub returns : goal.returns
returns c =
    c.is_one_more.ensures
    ∙ ap (λ b. nat_le FORMULAS c.self.inside.formulas && b) c.is_one_now.ensures
    ∙ ap (λ b. nat_le FORMULAS c.self.inside.formulas && (is_formula_text c.args.text.now && not b))
    (c.has_formula-was_one.ensures ∙ ap (λ s. is_formula_text (content_of s.contents c.args.cell)) (sym c.self.view_is))
    ∙ text_counts c.self.inside.sheets c.self.inside.names c.self.inside.cells.entries c.args.cell c.self.inside.formulas c.self.invariant.kept c.args.text.now
    (sym c.is_empty.ensures ∙ c.if-is_empty.false)
    ∙ ap (λ s. nat_lt FORMULAS (formula_count (with_text s.contents c.args.cell c.args.text.now))) c.self.view_is
