use Rattle.std.proofs.Common.{◌∙◌, filter, ap}
use Rattle.std.proofs.lemmas.List.{take_all}
use Rattle.std.specs.FinSet as set
use Rattle.workbook.specs.Kinds.{book_of}
use Rattle.extract.specs.Knowing.{is_open_text}
use Rattle.extract.proofs.Gathered.{each_found, each_passes, one_more}
use Rattle.extract.proofs.texts.texts_among.Goals as goal

pub loop-cell-preserved : goal.loop-cell-preserved
loop-cell-preserved c =
    one_more (is_open_text (book_of c.args.book.now) c.args.adj.now) c.args.cells.now c.loop-cell.cell-index _ c.loop-cell.found _ c.loop-cell-test.true c.loop-cell.invariant c.in_ok-add_open.ensures

pub returns-clause-each : goal.returns-clause-each
returns-clause-each c =
    let same = c.in_ok-found.ensures.all ∙ c.loop-cell.invariant ∙ ap (λ cells. set.from_list (filter (is_open_text (book_of c.args.book.now) c.args.adj.now) cells)) (take_all c.loop-cell.cell-index c.args.cells.now c.loop-cell-test.false) in
    λ b. (each_passes (is_open_text (book_of c.args.book.now) c.args.adj.now) c.args.cells.now c.in_ok-found.found.items same b, each_found (is_open_text (book_of c.args.book.now) c.args.adj.now) c.args.cells.now c.in_ok-found.found.items same b)
