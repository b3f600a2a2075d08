use Rattle.workbook.specs.Kinds.{book_of}
use Rattle.extract_incr.proofs.Settling.{all_settled, goes_on}
use Rattle.extract_incr.specs.Settling.{kept_in}
use Rattle.extract_incr.proofs.settle.settle_places.Goals as goal

pub returns-clause-settled : goal.returns-clause-settled
returns-clause-settled g c =
    all_settled (book_of c.args.book.now) c.args.adj.now c.args.sides.now c.settle_cells.new.table c.settle_sides.new.table c.in_ok-settle_sides.ensures.goes c.in_ok-settle_cells.ensures.there c.in_ok-settle_sides.ensures.there

pub returns-in_err-settle_sides-clause-goes : goal.returns-in_err-settle_sides-clause-goes
returns-in_err-settle_sides-clause-goes g c =
    goes_on (book_of c.args.book.now) (kept_in c.args.adj.now c.args.sides.now c.args.table.now) (kept_in c.args.adj.now c.args.sides.now c.settle_cells.new.table) (kept_in c.args.adj.now c.args.sides.now c.settle_sides.new.table)
    c.in_ok-settle_cells.ensures.goes c.in_err-settle_sides.ensures.goes

pub returns-clause-goes : goal.returns-clause-goes
returns-clause-goes g c =
    goes_on (book_of c.args.book.now) (kept_in c.args.adj.now c.args.sides.now c.args.table.now) (kept_in c.args.adj.now c.args.sides.now c.settle_cells.new.table) (kept_in c.args.adj.now c.args.sides.now c.settle_sides.new.table)
    c.in_ok-settle_cells.ensures.goes c.in_ok-settle_sides.ensures.goes
