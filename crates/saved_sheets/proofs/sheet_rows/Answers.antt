use Rattle.std.proofs.Common.{◌<◌, get_or, length, ap, ◌∙◌, arith, rules}
use Rattle.saved_sheets.specs.Saving.{fields_to, saved_row}
use Rattle.saved_sheets.proofs.Rows.{all_rows, one_more}
use Rattle.saved_sheets.proofs.Used.{width_at}
use Rattle.saved_sheets.proofs.sheet_rows.Goals as goal

pub loop-row-preserved : goal.loop-row-preserved
loop-row-preserved c =
    let contents = c.args.book.now.contents in
    let row = c.loop-row.row in
    let columns = c.index-columns.result.now in
    let there : row < length c.in_ok-widths.widths.items = omega (arith, c.len-row-end.ensures, c.loop-row-test.true) in
    let width =
    c.index-columns.ensures ∙ ap (λ i. get_or c.in_ok-widths.widths.items i columns) c.from.ensures
    ∙ width_at contents c.args.sheet.0 c.in_ok-widths.widths.items c.in_ok-widths.ensures.widths row columns there in
    one_more (saved_row contents c.args.sheet.0) row c.loop-row.rows c.add_row.new.rows (fields_to contents c.args.sheet.0 row columns)
    c.loop-row.invariant c.in_ok-add_row.ensures (ap (fields_to contents c.args.sheet.0 row) width)

pub returns : goal.returns
returns c =
    all_rows c.args.book.now.contents c.args.sheet.0 c.in_ok-widths.widths.items c.in_ok-widths.ensures.widths c.loop-row.rows c.loop-row.row (search rules) (search rules) c.loop-row.invariant
