use Rattle.workbook.specs.Kinds.{book_of}
use Rattle.extract_incr.proofs.Settling.{circular_form}
use Rattle.extract_incr.proofs.settle.settle_circular_cell.Goals as goal

pub keep-requires-clause-form : goal.keep-requires-clause-form
keep-requires-clause-form c = circular_form (book_of c.args.book.now) c.args.adj.now c.args.sides.now c.args.cell c.requires.circular
