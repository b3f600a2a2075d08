use Rattle.workbook.specs.Kinds.{book_of}
use Rattle.extract_incr.proofs.Settling.{side_forms}
use Rattle.extract_incr.proofs.settle.settle_side.Goals as goal

pub extract_stale-requires-clause-forms : goal.extract_stale-requires-clause-forms
extract_stale-requires-clause-forms g c = side_forms (book_of c.args.book.now) c.args.adj.now c.args.sides.now c.args.table.now c.args.tree.now c.requires.kept c.requires.cells
