use Rattle.workbook.specs.Kinds.{book_of}
use Rattle.extract_incr.proofs.Settling.{goes_same, now_goes, now_less, now_there}
use Rattle.extract_incr.proofs.stale.keep.Goals as goal

pub returns-clause-goes : goal.returns-clause-goes
returns-clause-goes c =
    now_goes (book_of c.args.book.now) c.args.adj.now c.args.sides.now c.args.table.now c.requires.numbers c.put.new.self c.args.place c.args.form c.in_ok-put.ensures.ok c.requires.stale c.requires.form c.requires.kept

pub returns-clause-one : goal.returns-clause-one
returns-clause-one c =
    now_less (book_of c.args.book.now) c.args.adj.now c.args.sides.now c.args.table.now c.requires.numbers c.put.new.self c.args.place c.args.form c.in_ok-put.ensures.ok c.requires.stale

pub returns-clause-there : goal.returns-clause-there
returns-clause-there c =
    now_there (book_of c.args.book.now) c.args.adj.now c.args.sides.now c.args.table.now c.requires.numbers c.put.new.self c.args.place c.args.form c.in_ok-put.ensures.ok

pub returns-in_err-put-clause-goes : goal.returns-in_err-put-clause-goes
returns-in_err-put-clause-goes c = goes_same (book_of c.args.book.now) c.args.adj.now c.args.sides.now c.args.table.now c.put.new.self c.in_err-put.ensures.err c.requires.kept
