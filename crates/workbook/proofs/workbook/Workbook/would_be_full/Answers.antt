use Rattle.std.proofs.Common.{◌∙◌, ap, length, sym}
use Rattle.std.specs.Prelude.{◌&&◌, nat_le, nat_lt, not}
use Rattle.cell_refs.specs.declared.limits.TheConstants.{TEXTS}
use Rattle.workbook.specs.State.{text_count, with_text}
use Rattle.workbook.proofs.Keeping.{empty_fits, text_fits}
use Rattle.workbook.proofs.workbook.Workbook.would_be_full.Goals as goal

pub returns-then-is_empty : goal.returns-then-is_empty
returns-then-is_empty c =
    empty_fits c.self.inside.sheets c.self.inside.names c.self.inside.cells.entries c.args.cell c.self.inside.formulas c.self.invariant.kept c.args.text.now
    (sym c.is_empty.ensures ∙ c.if-is_empty.true)
    ∙ ap (λ s. nat_lt TEXTS (text_count (with_text s.contents c.args.cell c.args.text.now))) c.self.view_is

pub returns : goal.returns
returns c =
    c.is_one_more.ensures
    ∙ ap (λ n. nat_le TEXTS n && not c.contains_key-has_text.result) c.len-count.ensures.len
    ∙ ap (λ b. nat_le TEXTS (length c.self.inside.cells.entries) && not b) c.contains_key-has_text.ensures
    ∙ text_fits c.self.inside.sheets c.self.inside.names c.self.inside.cells.entries c.args.cell c.self.inside.formulas c.self.invariant.kept c.args.text.now
    (sym c.is_empty.ensures ∙ c.if-is_empty.false)
    ∙ ap (λ s. nat_lt TEXTS (text_count (with_text s.contents c.args.cell c.args.text.now))) c.self.view_is
