use Rattle.workbook.specs.Kinds.{book_of}
use Rattle.extract_incr.proofs.Settling.{cells_there, each_circular, goes_on}
use Rattle.extract_incr.specs.Settling.{kept_in}
use Rattle.extract_incr.proofs.settle.settle_cells.Goals as goal

pub settle_circular-requires-clause-circular : goal.settle_circular-requires-clause-circular
settle_circular-requires-clause-circular g c = each_circular (book_of c.args.book.now) c.args.adj.now c.args.sides.now c.args.circular.now c.requires.circular

pub returns-clause-there : goal.returns-clause-there
returns-clause-there g c =
    cells_there (book_of c.args.book.now) c.args.adj.now c.args.sides.now c.args.circular.now c.requires.circular c.args.order.now c.settle_circular.new.table c.settle_order.new.table c.requires.free
    c.in_ok-settle_order.ensures.goes c.in_ok-settle_circular.ensures.there c.in_ok-settle_order.ensures.there

pub returns-in_err-settle_order-clause-goes : goal.returns-in_err-settle_order-clause-goes
returns-in_err-settle_order-clause-goes g c =
    goes_on (book_of c.args.book.now) (kept_in c.args.adj.now c.args.sides.now c.args.table.now) (kept_in c.args.adj.now c.args.sides.now c.settle_circular.new.table) (kept_in c.args.adj.now c.args.sides.now c.settle_order.new.table)
    c.in_ok-settle_circular.ensures.goes c.in_err-settle_order.ensures.goes

pub returns-clause-goes : goal.returns-clause-goes
returns-clause-goes g c =
    goes_on (book_of c.args.book.now) (kept_in c.args.adj.now c.args.sides.now c.args.table.now) (kept_in c.args.adj.now c.args.sides.now c.settle_circular.new.table) (kept_in c.args.adj.now c.args.sides.now c.settle_order.new.table)
    c.in_ok-settle_circular.ensures.goes c.in_ok-settle_order.ensures.goes
