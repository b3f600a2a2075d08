use Rattle.std.specs.Prelude.{Some}
use Rattle.workbook.specs.Kinds.{book_of}
use Rattle.dep_table.proofs.OpenLaws.{fewer_left}
use Rattle.needed_cells.specs.Finding.{is_open_within}
use Rattle.needed_cells.proofs.Texts.{IsSeen, all_gathered, all_seen, here_seen, next_seen, one_gathered, still_seen}
use Rattle.needed_cells.proofs.referred.add_of_texts.Goals as goal

pub loop-cell-smaller : goal.loop-cell-smaller
loop-cell-smaller c = fewer_left (book_of c.args.book.now) c.loop-cell.after c.in-Some.cell c.in-Some.ensures

pub loop-cell-preserved : goal.loop-cell-preserved
loop-cell-preserved c =
    let book = book_of c.args.book.now in
    let next = c.in-Some.ensures in
    one_gathered (is_open_within book c.args.adj.now c.args.area.now) _ (IsSeen book c.loop-cell.after) (IsSeen book (Some c.in-Some.cell)) c.loop-cell.found.items c.in-Some.cell c.loop-cell.invariant
    (next_seen book c.loop-cell.after c.in-Some.cell next) (still_seen book c.loop-cell.after c.in-Some.cell next) (here_seen book c.loop-cell.after c.in-Some.cell next) _ c.in_ok-add_open.ensures

pub returns : goal.returns
returns c =
    let book = book_of c.args.book.now in
    all_gathered (is_open_within book c.args.adj.now c.args.area.now) _ (IsSeen book c.loop-cell.after) c.loop-cell.found.items c.loop-cell.invariant
    (all_seen book c.loop-cell.after c.args.adj.now c.args.area.now c.in_default.ensures)
