use Rattle.std.proofs.Common.{refl}
use Rattle.recalculation.specs.Entries.{entry}
use Rattle.workbook.specs.Kinds.{book_of}
use Rattle.recalc.proofs.Right.{circular_right, put_right}
use Rattle.recalc.proofs.Saying.{tree_entry}
use Rattle.recalc.proofs.circular.put_circular.Goals as goal

pub returns-clause-right : goal.returns-clause-right
returns-clause-right c =
    let book = book_of c.args.book.now in
    let says = tree_entry (entry book c.args.cell) c.in-Some.tree.now c.in-Some.ensures in
    put_right book c.args.keeps_looks c.args.rows.now.entries c.put.new.rows.entries c.args.cell _ c.requires.right c.in_ok-put.ensures
    (circular_right book c.args.keeps_looks c.args.cell c.in-Some.tree.now says c.requires.circular _ refl refl c.in_ok-looks.ensures)
