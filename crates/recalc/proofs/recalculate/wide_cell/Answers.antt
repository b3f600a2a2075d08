use Rattle.std.proofs.Common.{false, sym, ◌∙◌}
use Rattle.std.specs.FinSet as set
use Rattle.workbook.specs.Kinds.{book_of}
use Rattle.recalc.proofs.Answering.{all_rows, answers, none_at_all}
use Rattle.recalc.proofs.recalculate.wide_cell.Goals as goal

pub returns-then-not-some_wide : goal.returns-then-not-some_wide
returns-then-not-some_wide c =
    none_at_all (book_of c.args.book.now) false c.args.rows.now.entries c.requires.right c.args.cell c.requires.rows (sym c.some_wide.ensures ∙ c.if-not-some_wide.true)

pub returns : goal.returns
returns c =
    let book = book_of c.args.book.now in
    let rows = c.in_ok-rows.rows.entries in
    answers book rows c.in_ok-rows.ensures.right c.args.cell
    (all_rows book rows rows c.args.cell (set.contains c.args.tour.now.circular) c.args.tour.now.order.items (λ a h. h) c.in_ok-rows.ensures.order c.in_ok-rows.ensures.circular c.requires.circular c.requires.free)
    c.least_wide.result c.least_wide.ensures
