use Rattle.std.proofs.Common.{ap, ◌∙◌}
use Rattle.recalculation.specs.Entries.{entry}
use Rattle.workbook.specs.Kinds.{book_of}
use Rattle.recalc.specs.Values.{value_at}
use Rattle.recalculation.specs.Walks.{refers}
use Rattle.recalc.proofs.Filled.{still_seen}
use Rattle.recalc.proofs.Right.{computed_right, put_right, seen_known}
use Rattle.recalc.proofs.Saying.{tree_entry}
use Rattle.recalc.proofs.fill.put_row.Goals as goal

pub returns-clause-right : goal.returns-clause-right
returns-clause-right c =
    let book = book_of c.args.book.now in
    let says = tree_entry (entry book c.args.cell) c.in-Some.tree.now c.in-Some.ensures in
    put_right book c.args.keeps_looks c.args.rows.now.entries c.put-2.new.rows.entries c.args.cell c.in_ok-row.row c.requires.right c.in_ok-put-2.ensures
    (computed_right book c.args.keeps_looks c.args.cell c.in-Some.tree.now says c.requires.free (value_at c.args.values.now)
    (λ b h. c.requires.seen b ∙ seen_known book c.args.keeps_looks c.args.rows.now.entries c.requires.right b (c.requires.ready b (ap (λ e. refers e b) says ∙ h)))
    c.in_ok-row.row c.in_ok-row.ensures)

pub returns-clause-seen : goal.returns-clause-seen
returns-clause-seen c =
    let book = book_of c.args.book.now in
    let says = tree_entry (entry book c.args.cell) c.in-Some.tree.now c.in-Some.ensures in
    still_seen book c.args.rows.now.entries c.put-2.new.rows.entries c.args.values.now c.put.new.self c.args.cell c.in-Some.tree.now c.in_ok-row.row c.in_ok-known_in.field-0 says
    c.requires.seen c.in_ok-known_in.ensures c.in_ok-put.ensures.put c.in_ok-put-2.ensures
