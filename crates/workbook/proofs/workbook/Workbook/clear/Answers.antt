use Rattle.std.proofs.Common.{◌∙◌, ◌≡◌, [], ap, arith, sym}
use Rattle.workbook.specs.Contents.{content_of}
use Rattle.workbook.specs.Edits.{after_set}
use Rattle.workbook.specs.Held.{contents_of}
use Rattle.workbook.specs.State.{is_formula_text}
use Rattle.workbook.proofs.Counting.{one}
use Rattle.workbook.proofs.Covered.{covered_taken}
use Rattle.workbook.proofs.Keeping.{had_fits, kept_taken, text_taken}
use Rattle.workbook.proofs.workbook.Workbook.clear.Goals as goal

pub overflow_sub-self : goal.overflow_sub-self
overflow_sub-self c =
    let es = c.self.inside.cells.entries in
    let is : c.one.result ≡ one (is_formula_text (content_of (contents_of es) c.args.cell)) =
    c.one.ensures ∙ ap one (c.has_formula-was_one.ensures ∙ ap (λ s. is_formula_text (content_of s.contents c.args.cell)) (sym c.self.view_is)) in
    omega (arith, is, had_fits c.self.inside.sheets c.self.inside.names es c.args.cell c.self.inside.formulas c.self.invariant.kept)

pub invariant_of-self : goal.invariant_of-self
invariant_of-self c =
    let es = c.self.inside.cells.entries in
    let is : c.one.result ≡ one (is_formula_text (content_of (contents_of es) c.args.cell)) =
    c.one.ensures ∙ ap one (c.has_formula-was_one.ensures ∙ ap (λ s. is_formula_text (content_of s.contents c.args.cell)) (sym c.self.view_is)) in
    record {
      kept =
          kept_taken c.self.inside.sheets c.self.inside.names es c.take_away.new.cells.entries c.args.cell c.self.inside.formulas _ c.self.invariant.kept
          c.take_away.ensures.taken c.take_away.ensures.len
          (omega (arith, is, had_fits c.self.inside.sheets c.self.inside.names es c.args.cell c.self.inside.formulas c.self.invariant.kept));
      covered = covered_taken c.self.inside.users es c.take_away.new.cells.entries c.self.invariant.covered c.args.cell c.take_away.ensures.taken;
    }

pub returns : goal.returns
returns c =
    ap (λ m. record { sheets = c.self.inside.sheets; contents = m; names = c.self.inside.names })
    (text_taken c.self.inside.cells.entries c.take_away.new.cells.entries c.args.cell c.take_away.ensures.taken)
    ∙ ap (λ s. after_set s c.args.cell []) c.self.view_is
