use Rattle.workbook.specs.Kinds.{book_of}
use Rattle.form_needs.specs.FromSheetProblems.{HasSides}
use Rattle.solver_names.specs.Sides.{sides_in}
use Rattle.sheet_linear_model.proofs.Looping.{sides_step}
use Rattle.open_forms.proofs.numbers.sides_of_rows.Goals as goal

pub loop-row-preserved : goal.loop-row-preserved
loop-row-preserved c =
    sides_step (HasSides (book_of c.args.book.now) (sides_in c.args.book.now c.args.of.now.sheet.0) c.args.of.now.adj) c.args.rows.now c.loop-row.sides.items c.push.new.self.items
    c.loop-row.row-index _ c.in_ok-row_sides.field-0 c.loop-row-test.true c.in_ok-push.ensures.items c.in_ok-row_sides.ensures c.loop-row.invariant
